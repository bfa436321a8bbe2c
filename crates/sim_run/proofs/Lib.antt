pub mod CycleLemmas
pub mod RowLemmas
pub mod WholeLemmas
