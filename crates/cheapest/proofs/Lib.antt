pub mod Earlier
pub mod Lists
pub mod Onward
pub mod Walking
pub mod Twin
pub mod Asking
