pub mod Sharing
pub mod Flagging
pub mod Seeing
pub mod Hiding
