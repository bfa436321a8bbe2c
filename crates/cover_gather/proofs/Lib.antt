pub mod PointLemmas
pub mod StepLemmas
pub mod OpenLemmas
pub mod KeyLemmas
pub mod CoverLemmas
pub mod TallyLemmas
pub mod GatherLemmas
