pub mod Faults
pub mod Joins
pub mod Operators
pub mod Reads
