pub mod SetFrame
pub mod Deferred
pub mod Idle
pub mod Covers
pub mod Edge
pub mod EdgeEnds
