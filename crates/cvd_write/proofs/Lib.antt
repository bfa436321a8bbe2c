pub mod Numerals
pub mod Puts
pub mod Lines
pub mod StepLines
pub mod Same
