pub mod Endian
pub mod Straight
pub mod Library
