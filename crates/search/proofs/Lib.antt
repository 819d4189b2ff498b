pub mod SameBytes
pub mod Outcome
pub mod SearchDue
pub mod Areas
pub mod Rule
pub mod Closing
