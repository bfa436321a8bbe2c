pub mod Heads
pub mod Nodes
pub mod Trees
