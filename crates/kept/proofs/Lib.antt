pub mod Kept
pub mod Onward
pub mod Examples
pub mod Weightless
