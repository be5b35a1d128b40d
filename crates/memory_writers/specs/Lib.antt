pub mod Area
pub mod Stores
