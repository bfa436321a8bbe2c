pub mod Entering
pub mod Opening
