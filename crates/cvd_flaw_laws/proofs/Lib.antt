pub mod TextLines
pub mod Whole
pub mod FirstWrong
pub mod Told
