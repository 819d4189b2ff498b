pub mod KeptLoop
pub mod NextParented
