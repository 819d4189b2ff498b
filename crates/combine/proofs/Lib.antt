pub mod Numbers
pub mod Pieces
pub mod Ready
pub mod Outcome
pub mod Told
pub mod CombineDue
pub mod NextPasses
pub mod ShareTotals
