pub mod CheckFolds
pub mod CheckMeans
pub mod FlatInduction
pub mod RightLaws
pub mod SaidFolds
pub mod SoundFolds
