pub mod Key
pub mod Limits
pub mod LineLists
