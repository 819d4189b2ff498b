pub mod Scheme
pub mod Node
pub mod Correction
pub mod Keys
pub mod Evaluation
pub mod PublicShare
pub mod Totals
pub mod Instance
