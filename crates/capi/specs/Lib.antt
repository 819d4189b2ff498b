pub mod Block
pub mod Combined
