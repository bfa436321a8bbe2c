pub mod Lessers
pub mod Meeting
pub mod Searching
pub mod OfVars
