pub mod BitLemmas
pub mod PartLaws
pub mod ResultLaws
pub mod SizeLaws
pub mod Widths
