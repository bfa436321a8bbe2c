pub mod Flaws
pub mod Single
pub mod Lists
