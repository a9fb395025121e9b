pub mod Rides
pub mod Turns
