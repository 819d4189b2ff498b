pub mod NodeList
pub mod Roots
pub mod Filling
pub mod ShareKept
pub mod Judging
pub mod Sessions
