pub mod Merging
pub mod Scripts
