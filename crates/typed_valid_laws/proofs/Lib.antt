mod FitFolds
mod FixedFits
mod Nodes
mod Sizes
mod StatementFolds
mod Targets
pub mod TypedSteps
pub mod TypedWidths
