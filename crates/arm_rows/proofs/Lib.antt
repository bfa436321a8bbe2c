pub mod Adding
pub mod Listing
pub mod StepRows
pub mod Whole
