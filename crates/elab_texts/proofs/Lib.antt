pub mod Digits
pub mod Parameters
