pub mod GoodNames
pub mod NameLemmas
pub mod AnnotatedLemmas
pub mod ReasonLemmas
pub mod PrepareLemmas
pub mod SourceLemmas
pub mod StoreLemmas
