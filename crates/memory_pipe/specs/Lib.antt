pub mod PipeView
pub mod Permits
