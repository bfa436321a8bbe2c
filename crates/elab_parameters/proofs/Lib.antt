pub mod Forms
pub mod Values
pub mod Founds
pub mod Readings
pub mod Declarations
