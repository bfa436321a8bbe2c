pub mod Constants
pub mod Refusals
pub mod SoundExpressions
pub mod SoundSources
pub mod Weights
