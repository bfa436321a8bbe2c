pub mod Laws
pub mod Promises
pub mod Sparing
pub mod Tasks
pub mod Words
