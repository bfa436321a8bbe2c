pub mod Resolved
pub mod Copies
