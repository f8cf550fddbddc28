pub mod InArea
pub mod Ranges
