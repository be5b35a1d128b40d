pub mod Reading
pub mod ReadingOf
