pub mod FieldLemmas
pub mod LayoutLemmas
pub mod NameLemmas
pub mod RowLemmas
pub mod WidthLemmas
pub mod Worked
