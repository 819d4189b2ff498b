pub mod SearchSpace
