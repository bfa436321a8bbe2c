pub mod Layers
pub mod Rests
