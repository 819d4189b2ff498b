pub mod Lent
pub mod LentPrefix
pub mod ReportChecks
pub mod PublicChecks
