pub mod Causes
pub mod Bounds
pub mod Refusals
pub mod Outcome
