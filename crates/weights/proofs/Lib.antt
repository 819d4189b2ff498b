pub mod HeldWeights
pub mod WeightedTotals
pub mod Ones
pub mod Examples
pub mod Words
