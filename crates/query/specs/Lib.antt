pub mod Query
pub mod Prefix
pub mod Written
