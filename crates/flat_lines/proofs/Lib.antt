pub mod Direct
pub mod Stopping
