pub mod LockOf
pub mod TableOf
pub mod Asking
pub mod PartsOf
pub mod Operations
pub mod Acquiring
pub mod GivingBack
pub mod SharedOf
