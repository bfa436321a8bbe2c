pub mod KeyText
pub mod KeyLaw
