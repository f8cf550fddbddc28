pub mod Outcome
pub mod Tells
pub mod Begun
pub mod Lasting
