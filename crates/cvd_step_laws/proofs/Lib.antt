pub mod LineMarks
pub mod StepParts
pub mod PartsApart
pub mod StepsApart
pub mod Vars
pub mod BlockReads
