pub mod Agreement
pub mod Writing
