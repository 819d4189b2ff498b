pub mod Placing
pub mod Begun
