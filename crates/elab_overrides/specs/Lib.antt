pub mod Overrides
pub mod Given
