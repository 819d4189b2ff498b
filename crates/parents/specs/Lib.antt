pub mod Parents
pub mod Lookup
