pub mod Small
pub mod Turns
