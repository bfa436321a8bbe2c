pub mod Bounds
pub mod Parameters
