pub mod Phases
pub mod Laws
pub mod Others
