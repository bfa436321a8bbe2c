pub mod FaultLemmas
pub mod ReadingLemmas
pub mod StepLemmas
pub mod OpenLemmas
pub mod SparingLemmas
pub mod MergeLemmas
pub mod OrderLemmas
