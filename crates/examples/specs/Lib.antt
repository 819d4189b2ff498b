pub mod Marked
pub mod Weighted
