pub mod Places
pub mod Costs
