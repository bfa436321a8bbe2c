pub mod Passes
pub mod Choices
