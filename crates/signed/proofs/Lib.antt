pub mod Embedding
pub mod Words
pub mod Examples
