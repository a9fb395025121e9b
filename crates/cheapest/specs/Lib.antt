pub mod Items
pub mod Onward
