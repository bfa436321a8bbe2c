pub mod RenotedLemmas
pub mod Driven
pub mod RenotedRuns
pub mod NotesOfRuns
pub mod RunsBack
pub mod TwinsBack
