pub mod Numbers
pub mod Noting
pub mod Layouts
pub mod Owned
pub mod Linked
pub mod Grown
pub mod Columns
pub mod Ordered
