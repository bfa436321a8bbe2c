pub mod Choosing
pub mod Reports
pub mod Names
