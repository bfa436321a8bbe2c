pub mod Bodies
pub mod Adding
pub mod Words
pub mod Lines
