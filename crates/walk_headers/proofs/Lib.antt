pub mod HeaderItems
pub mod PortRows
