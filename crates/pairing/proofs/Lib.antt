pub mod Lines
pub mod Stations
pub mod Pairs
pub mod Rising
