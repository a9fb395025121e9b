pub mod Books
pub mod Table
pub mod Lines
