pub mod Graph
pub mod Verdict
pub mod Listing
pub mod Falling
