pub mod SharedView
pub mod QueueRule
pub mod Polls
pub mod Events
pub mod Steps
pub mod History
pub mod Promises
pub mod Examples
