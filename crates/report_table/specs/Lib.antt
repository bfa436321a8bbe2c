pub mod Seen
pub mod Placing
pub mod Chains
pub mod Groups
pub mod LineCounts
pub mod FileTables
