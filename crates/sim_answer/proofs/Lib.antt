pub mod RunLemmas
pub mod RowLemmas
pub mod AnswerLemmas
pub mod Worked
