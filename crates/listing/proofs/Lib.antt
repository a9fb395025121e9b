pub mod Putting
pub mod Pairs
