pub mod Reply
pub mod Judge
pub mod Runs
pub mod Meaning
