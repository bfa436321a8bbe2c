pub mod CheckAnswer
pub mod CheckPromise
pub mod Agree
pub mod Laws
pub mod Steps
