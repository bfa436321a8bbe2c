pub mod Wakes
pub mod Readers
pub mod Targets
pub mod Sources
pub mod Changes
