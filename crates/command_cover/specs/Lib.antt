pub mod CoverReading
pub mod Merge
pub mod MergePromise
pub mod Laws
pub mod Sparing
pub mod Steps
