pub mod Packed
pub mod Append
pub mod Spare
pub mod Order
pub mod Longer
