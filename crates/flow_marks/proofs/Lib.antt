pub mod Numbers
pub mod Counts
pub mod Kept
pub mod Tests
pub mod Started
pub mod Taking
pub mod Undoing
