pub mod Standing
mod Passes
mod Names
