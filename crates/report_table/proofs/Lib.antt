pub mod Gathering
pub mod ChainLemmas
pub mod SortLemmas
pub mod CountLemmas
pub mod GroupLemmas
pub mod StepLemmas
pub mod PlaceLemmas
