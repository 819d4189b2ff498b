pub mod Looking
pub mod Found
pub mod Agreeing
pub mod Unparented
pub mod Members
pub mod Placed
pub mod Last
pub mod Parented
