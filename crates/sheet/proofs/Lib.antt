pub mod Compared
pub mod Room
