pub mod Duplicates
