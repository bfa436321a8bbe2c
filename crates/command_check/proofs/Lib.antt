pub mod AgreeLemmas
pub mod CheckLemmas
pub mod DesignLemmas
pub mod PlaceLemmas
pub mod RefusalLemmas
pub mod ReadingLemmas
