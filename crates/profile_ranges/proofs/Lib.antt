pub mod Granted
pub mod OneSearch
