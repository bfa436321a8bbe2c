mod Pieces
pub mod Numbers
