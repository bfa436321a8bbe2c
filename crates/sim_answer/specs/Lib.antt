pub mod Simulation
pub mod Refusals
pub mod Underway
pub mod SimAnswer
pub mod SimPromise
pub mod Laws
