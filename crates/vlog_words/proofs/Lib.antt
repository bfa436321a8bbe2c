pub mod KeywordLemmas
pub mod SymbolLaws
pub mod TableLemmas
