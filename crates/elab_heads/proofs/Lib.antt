pub mod Genvars
pub mod Passes
pub mod Heads
pub mod Choices
