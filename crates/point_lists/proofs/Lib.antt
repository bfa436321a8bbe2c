pub mod ArmLists
pub mod BitMarks
pub mod Putting
