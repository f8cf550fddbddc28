pub mod Outcome
pub mod Tells
