pub mod Walks
pub mod Uses
pub mod Gathers
