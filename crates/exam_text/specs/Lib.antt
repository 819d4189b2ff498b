pub mod Characters
pub mod Sheet
pub mod Reader
pub mod KeyLine
