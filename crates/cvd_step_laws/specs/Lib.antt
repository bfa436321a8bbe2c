pub mod LineMarks
pub mod StepMarks
