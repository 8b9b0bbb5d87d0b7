pub mod Piece
pub mod Code
pub mod Examples
