pub mod Bytes
pub mod Maps
