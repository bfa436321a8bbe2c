pub mod Growing
pub mod Listed
pub mod Joined
pub mod Firsts
pub mod Chaining
