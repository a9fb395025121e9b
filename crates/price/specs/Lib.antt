pub mod Priceable
