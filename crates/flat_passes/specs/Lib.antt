pub mod Says
pub mod Turns
