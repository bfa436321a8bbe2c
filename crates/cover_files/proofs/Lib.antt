pub mod CoverLemmas
