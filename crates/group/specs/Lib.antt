pub mod Group
pub mod Modular
