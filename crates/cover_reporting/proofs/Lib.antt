pub mod AskedLemmas
pub mod NameLemmas
pub mod RefusalLemmas
pub mod StoreLemmas
