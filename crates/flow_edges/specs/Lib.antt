pub mod Stretches
pub mod Owning
pub mod Linking
pub mod Ordering
