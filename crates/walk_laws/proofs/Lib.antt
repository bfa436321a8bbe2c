pub mod Thens
pub mod Steps
pub mod Modules
pub mod Standings
