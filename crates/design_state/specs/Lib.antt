pub mod InDesign
pub mod Layout
pub mod Positions
pub mod Shapes
