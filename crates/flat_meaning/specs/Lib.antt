pub mod Circuit
pub mod Expressions
pub mod Faults
pub mod FlatForm
pub mod FlatLaws
pub mod FlatTrees
pub mod Statements
