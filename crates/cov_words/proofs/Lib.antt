pub mod BehindLemmas
pub mod ShortLemmas
pub mod LawLemmas
pub mod SignLemmas
pub mod RangeLemmas
