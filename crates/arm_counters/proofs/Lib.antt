pub mod Marking
pub mod Telling
pub mod Few
