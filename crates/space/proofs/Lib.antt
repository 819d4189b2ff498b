pub mod Within
mod Levels
