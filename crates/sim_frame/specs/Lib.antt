pub mod Asked
pub mod DesignText
pub mod EndRooms
pub mod Heads
pub mod RunEnds
pub mod Sparing
