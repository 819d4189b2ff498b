pub mod Pieces
pub mod LevelTotals
pub mod Asking
pub mod Reading
pub mod Below
pub mod Turn
pub mod Opening
pub mod Closing
