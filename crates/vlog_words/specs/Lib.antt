pub mod Examples
pub mod Identifier
pub mod LateKinds
pub mod Names
pub mod SymbolTable
pub mod Symbols
pub mod Words
