pub mod Stands
pub mod Post
