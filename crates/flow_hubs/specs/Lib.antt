pub mod Adding
pub mod Hubs
pub mod Kept
pub mod Chained
