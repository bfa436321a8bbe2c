pub mod Machines
pub mod Frugal
