pub mod Trails
pub mod Search
pub mod Walking
pub mod Turned
pub mod Descent
