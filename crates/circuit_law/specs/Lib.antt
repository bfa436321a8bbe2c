pub mod Renoted
pub mod OnlyRuns
