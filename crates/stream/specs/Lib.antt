pub mod Questions
pub mod Refusals
pub mod LimitsRules
pub mod Meaning
pub mod HostTurns
pub mod StreamRules
pub mod WritePermitted
