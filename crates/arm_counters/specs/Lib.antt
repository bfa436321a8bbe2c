pub mod Needed
pub mod Counters
