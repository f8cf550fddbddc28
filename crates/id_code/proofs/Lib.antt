pub mod Codes
pub mod Padded
pub mod Search
