pub mod Places
pub mod Layouts
pub mod LaidStarts
pub mod Typings
pub mod Repeats
pub mod Turns
pub mod SameSlots
