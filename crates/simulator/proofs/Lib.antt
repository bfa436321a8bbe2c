pub mod Sound
pub mod Parts
