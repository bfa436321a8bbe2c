pub mod DesignLemmas
pub mod EndLemmas
pub mod HeadLemmas
pub mod LeaveLemmas
pub mod RunLemmas
