pub mod KeyPage
pub mod KeyAnswer
pub mod KeyParts
