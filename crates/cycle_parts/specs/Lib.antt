pub mod Raised
pub mod Lines
pub mod Toggles
