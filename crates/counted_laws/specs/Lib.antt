pub mod ErasedLaw
pub mod ValidLaw
pub mod DerivedTable
