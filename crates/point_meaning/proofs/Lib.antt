pub mod FromWalk
mod ArmExamples
mod HierExamples
pub mod PragmaExamples
pub mod CountExamples
mod ResetExample
mod DataExample
mod MoreCounts
