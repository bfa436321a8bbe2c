pub mod CountLaws
pub mod EntryOrder
pub mod Firsts
pub mod LineLaws
pub mod NextOnes
pub mod ToggleLaws
pub mod WordLaws
