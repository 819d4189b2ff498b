pub mod Decisions
pub mod Judged
