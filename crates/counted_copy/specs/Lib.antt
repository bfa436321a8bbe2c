pub mod Carried
pub mod Blocks
pub mod Processes
