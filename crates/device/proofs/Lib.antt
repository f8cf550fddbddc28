pub mod Steps
pub mod Added
pub mod Turns
pub mod NextCall
pub mod Unique
