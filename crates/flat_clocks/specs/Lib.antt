pub mod Handings
