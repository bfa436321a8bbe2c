pub mod Rows
pub mod Names
pub mod Marks
pub mod Finds
