pub mod Turning
pub mod Sharing
