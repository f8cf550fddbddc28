pub mod Alike
pub mod Seen
pub mod Running
pub mod Apart
pub mod Example
