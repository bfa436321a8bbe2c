pub mod Parts
pub mod Stacks
pub mod Putting
pub mod Whole
pub mod Building
pub mod Held
