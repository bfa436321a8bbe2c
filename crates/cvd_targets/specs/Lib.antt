pub mod Positions
pub mod TargetParts
pub mod PieceParts
pub mod Lists
pub mod ByteTexts
