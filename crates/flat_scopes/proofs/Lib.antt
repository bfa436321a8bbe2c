mod Meanings
mod Tables
pub mod Places
mod More
