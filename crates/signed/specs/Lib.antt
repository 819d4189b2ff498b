pub mod SignedReading
