pub mod Pieces
pub mod Sheets
pub mod Books
pub mod Trips
