pub mod Values
pub mod Later
