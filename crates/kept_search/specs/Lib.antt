pub mod KeptLoop
