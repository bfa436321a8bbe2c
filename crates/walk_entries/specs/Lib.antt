pub mod Blocks
pub mod Instances
