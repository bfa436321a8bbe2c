pub mod Loops
pub mod Inside
