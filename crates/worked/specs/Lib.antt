pub mod Shows
pub mod Happens
pub mod Worked
