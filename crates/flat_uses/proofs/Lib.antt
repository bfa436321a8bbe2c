pub mod NameEquations
mod Uses
mod TargetUses
