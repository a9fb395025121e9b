pub mod Ordered
pub mod Rules
pub mod Least
pub mod Totals
pub mod Priced
pub mod Prices
