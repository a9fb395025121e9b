pub mod Filled
pub mod InOrder
pub mod Bytes
pub mod Sizes
pub mod Whole
pub mod Answers
