pub mod ShareOutcome
pub mod ShareSums
pub mod ShareDue
