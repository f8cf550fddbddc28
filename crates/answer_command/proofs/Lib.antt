pub mod Granting
pub mod Spans
pub mod Unseen
