pub mod LastDigit
pub mod PrintedBits
pub mod PrintedHex
pub mod FieldChain
pub mod FieldRoom
pub mod LineRoom
