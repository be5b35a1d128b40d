pub mod Splits
pub mod Readings
pub mod Forms
