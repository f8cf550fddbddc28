pub mod Post
pub mod Told
