pub mod Planned
pub mod Handed
