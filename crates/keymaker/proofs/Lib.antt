pub mod KeyLevel
pub mod KeyControl
pub mod KeyWriting
pub mod KeyMaker
pub mod KeyCauses
pub mod KeyTheorems
pub mod KeyMade
