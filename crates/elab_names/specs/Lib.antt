pub mod DeclaredNames
pub mod Meanings
pub mod Frames
pub mod Arms
