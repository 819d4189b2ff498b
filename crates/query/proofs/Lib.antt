pub mod Children
pub mod Queries
pub mod Parts
pub mod Place
pub mod Check
pub mod Ready
pub mod Pieces
pub mod Examples
