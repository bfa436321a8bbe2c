pub mod Effects
pub mod InDesign
pub mod Laws
pub mod Needed
