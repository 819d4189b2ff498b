pub mod Numbers
pub mod Matching
pub mod Sums
pub mod AddOutcome
