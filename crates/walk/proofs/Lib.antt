pub mod Descent
pub mod PublicTests
pub mod Siblings
