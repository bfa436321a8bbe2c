pub mod Joined
pub mod Turning
pub mod Edge
pub mod Leave
pub mod Passing
