pub mod Queued
pub mod Operating
pub mod Granted
pub mod Polling
pub mod Queues
