pub mod Rides
pub mod Improving
