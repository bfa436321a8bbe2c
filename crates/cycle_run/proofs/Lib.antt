pub mod RowLaws
pub mod TallyLaws
pub mod EdgeLaws
pub mod RunLaws
pub mod StepBounds
pub mod ToggleBounds
