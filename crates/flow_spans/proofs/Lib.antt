pub mod Adding
pub mod ReadBits
pub mod Arms
pub mod OfVars
