pub mod Forms
pub mod Values
pub mod Founds
pub mod Declarations
