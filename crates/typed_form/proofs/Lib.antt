mod Keeps
mod KeepsBinary
mod Doings
mod Example
mod Done
mod KeepsItems
mod KeepsProcess
pub mod KeepsRun
mod KeepsTargets
mod KeepsTexts
pub mod KeepsValue
mod NodeValues
pub mod Whole
pub mod OnlyRun
