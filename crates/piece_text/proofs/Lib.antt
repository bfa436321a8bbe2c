pub mod DigitLaws
pub mod TextLaws
pub mod PiecesIn
pub mod ShowFits
