mod Fixed
mod Formed
mod OneWay
mod NodeConstants
mod Constancy
mod TargetBits
mod StepBits
pub mod Drives
mod SourceFixed
mod FlatFixed
mod FormedStmts
mod Connected
pub mod FormedSource
pub mod FileRuns
