pub mod Driven
pub mod Flags
pub mod Watching
