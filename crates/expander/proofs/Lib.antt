pub mod Sums
pub mod Words
pub mod Chosen
pub mod Sized
