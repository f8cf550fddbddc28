pub mod After
pub mod Reading
pub mod Writing
