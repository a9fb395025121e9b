pub mod Putting
pub mod Lines
