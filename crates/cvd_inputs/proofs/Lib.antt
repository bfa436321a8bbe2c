pub mod InputNumbers
pub mod Ending
pub mod Section
