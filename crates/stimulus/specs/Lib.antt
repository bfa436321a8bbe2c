pub mod Lines
pub mod Streaming
pub mod Taking
