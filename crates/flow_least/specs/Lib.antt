pub mod Least
pub mod Met
pub mod First
