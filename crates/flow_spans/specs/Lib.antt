pub mod Reads
pub mod Clips
pub mod Asked
pub mod Aims
