pub mod Areas
pub mod Bench
pub mod Places
