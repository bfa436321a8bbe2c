pub mod Marks
pub mod Reading
pub mod ReadExpressions
pub mod ReadParts
pub mod ReadStatements
pub mod ReadItemParts
pub mod ReadItems
pub mod ReadModules
