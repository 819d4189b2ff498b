pub mod Joined
pub mod Sides
pub mod Lengths
pub mod LineKey
pub mod Responding
pub mod KeyOutputs
pub mod Sums
pub mod Examples
