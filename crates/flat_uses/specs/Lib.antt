pub mod SelectNames
