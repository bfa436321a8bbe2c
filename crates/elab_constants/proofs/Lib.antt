pub mod Faults
pub mod Sizes
pub mod Joins
pub mod Operators
pub mod Reading
pub mod Nodes
