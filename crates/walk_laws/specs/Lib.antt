pub mod Rest
pub mod Stands
