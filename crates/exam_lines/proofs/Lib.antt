pub mod LineSizes
pub mod Inside
