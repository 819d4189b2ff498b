pub mod Strings
pub mod Packing
