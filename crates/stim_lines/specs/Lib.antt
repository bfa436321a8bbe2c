pub mod Fields
pub mod Header
pub mod RowLines
pub mod Stimulus
pub mod Layouts
pub mod Reading
