pub mod Expander
