pub mod Format
pub mod Recording
