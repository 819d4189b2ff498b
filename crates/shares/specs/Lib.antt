pub mod ShareNumbers
pub mod Add
