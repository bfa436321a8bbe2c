pub mod Fronts
pub mod Paths
pub mod Names
pub mod Same
pub mod PointEvents
pub mod TableEvents
pub mod Orders
pub mod KeysApart
