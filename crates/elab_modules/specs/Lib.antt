pub mod Tables
pub mod Modules
pub mod Above
