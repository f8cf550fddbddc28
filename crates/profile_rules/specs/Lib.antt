pub mod Rules
pub mod Sound
pub mod Judged
