pub mod Lines
pub mod Numbers
pub mod Commands
pub mod Parsing
pub mod View
pub mod LinesOf
