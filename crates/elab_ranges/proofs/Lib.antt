pub mod Ranges
pub mod Parameters
