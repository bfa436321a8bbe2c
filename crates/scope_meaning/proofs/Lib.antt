pub mod Equations
mod Texts
mod ItemEquations
mod Hierarchy
mod Generate
mod Refused
pub mod WalkLaws
pub mod TreeLaws
mod CutWalks
