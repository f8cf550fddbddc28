pub mod Steps
pub mod Post
