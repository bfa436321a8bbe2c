pub mod Middle
pub mod Waking
