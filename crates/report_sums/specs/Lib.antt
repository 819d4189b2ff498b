pub mod Reports
pub mod Checks
