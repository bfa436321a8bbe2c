pub mod Places
pub mod Numerals
pub mod Reads
pub mod Words
