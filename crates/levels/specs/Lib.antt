pub mod Levels
pub mod LevelRead
