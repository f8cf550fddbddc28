pub mod Answered
pub mod Landings
pub mod Tapes
