pub mod Counters
pub mod Rows
pub mod Keys
pub mod Sections
pub mod Whole
