pub mod Heads
pub mod Fields
pub mod Trees
pub mod Typings
pub mod Goes
