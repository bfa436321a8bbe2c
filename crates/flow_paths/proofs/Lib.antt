pub mod Passing
pub mod Branching
pub mod Listing
pub mod Reading
pub mod StepPaths
pub mod StepPasses
pub mod Pathways
