pub mod Walks
pub mod Tests
pub mod Formed
pub mod Gathering
pub mod StepKinds
pub mod Whole
