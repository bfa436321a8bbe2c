pub mod Reading
pub mod Noting
pub mod Writing
pub mod Whole
