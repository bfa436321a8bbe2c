pub mod Members
pub mod OfWalk
