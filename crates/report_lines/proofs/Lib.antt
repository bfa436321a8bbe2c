pub mod ItemLaws
pub mod PointLaws
pub mod TotalLaws
pub mod InfoLaws
pub mod SourceLaws
pub mod Joins
