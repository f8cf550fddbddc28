pub mod Refusals
pub mod Unique
pub mod Written
