pub mod DriveLaws
pub mod FileRuns
pub mod FixedParts
pub mod FormedBodies
