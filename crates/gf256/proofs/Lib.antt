pub mod Lists
pub mod Below
pub mod Computes
pub mod Inverse
pub mod Products
