pub mod Computes
pub mod SBoxTable
pub mod Words
pub mod Columns
pub mod Rounds
pub mod Bytes
