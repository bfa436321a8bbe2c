pub mod Binaries
pub mod Flags
pub mod Forms
pub mod NodeFlags
pub mod Others
pub mod PartChains
pub mod Unaries
pub mod Whole
