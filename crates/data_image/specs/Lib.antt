pub mod PointText
pub mod Lines
