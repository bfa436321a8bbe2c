pub mod TakingLemmas
pub mod StoreLemmas
pub mod PutLemmas
pub mod StopLemmas
pub mod FinishLemmas
pub mod CutLemmas
pub mod NamesLemmas
pub mod DoneLemmas
