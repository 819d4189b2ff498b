pub mod Honest
pub mod Loop
