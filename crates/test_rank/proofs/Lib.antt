pub mod Counts
pub mod Covering
pub mod Sums
pub mod Chosen
pub mod OneRank
