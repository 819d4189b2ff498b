pub mod SearchRule
pub mod Cut
pub mod Space
