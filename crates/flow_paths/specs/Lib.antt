pub mod Walking
pub mod Faults
