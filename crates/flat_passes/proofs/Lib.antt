pub mod Readings
pub mod Constants
pub mod Sequences
pub mod Turns
