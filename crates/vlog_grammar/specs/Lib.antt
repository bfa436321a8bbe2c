pub mod Tokens
pub mod Parts
pub mod Expressions
pub mod Statements
pub mod Items
pub mod Modules
