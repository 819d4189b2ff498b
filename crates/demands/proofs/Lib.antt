pub mod EveryCall
pub mod HeavyList
pub mod EqualRecords
