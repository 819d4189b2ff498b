pub mod Answer
pub mod Combine
