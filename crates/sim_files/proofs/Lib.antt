pub mod DesignLemmas
