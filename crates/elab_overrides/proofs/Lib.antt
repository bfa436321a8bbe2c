pub mod Names
pub mod Items
mod GivenValues
