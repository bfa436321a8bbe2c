pub mod Faults
pub mod Names
pub mod Terms
pub mod Sized
pub mod Operators
pub mod Reads
