pub mod Flaws
pub mod Judged
