pub mod Twice
pub mod Candidates
