pub mod Cutting
pub mod Starts
pub mod Digits
pub mod Composed
pub mod Single
pub mod Lists
