pub mod Arms
pub mod Bits
pub mod Lists
