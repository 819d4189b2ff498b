pub mod Sheet
pub mod Weighted
