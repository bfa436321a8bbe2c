pub mod Numerals
pub mod Typeds
pub mod TypedSorts
pub mod Targets
pub mod Pieces
pub mod Marks
