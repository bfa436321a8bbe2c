pub mod DigitCounts
pub mod Pieces
