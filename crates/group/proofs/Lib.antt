pub mod Laws
pub mod Modular
