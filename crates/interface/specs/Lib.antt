pub mod Calls
pub mod Post
