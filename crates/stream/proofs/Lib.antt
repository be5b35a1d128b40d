pub mod UnderPermit
