pub mod OneList
pub mod Cutting
pub mod Decimals
pub mod LineTexts
pub mod Fields
pub mod PointKeys
