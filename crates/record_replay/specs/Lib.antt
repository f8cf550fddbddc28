pub mod Replay
pub mod Blind
pub mod Post
