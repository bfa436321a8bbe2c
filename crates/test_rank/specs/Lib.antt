pub mod Ranking
pub mod Laws
pub mod Counting
pub mod Choosing
