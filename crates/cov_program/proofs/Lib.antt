pub mod LawLemmas
pub mod ProgramLemmas
pub mod SimLemmas
pub mod TaskLemmas
