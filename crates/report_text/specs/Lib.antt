pub mod Items
pub mod Totals
pub mod FileNames
pub mod Annotation
pub mod Info
pub mod Tables
pub mod Faults
