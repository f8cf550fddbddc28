pub mod Plan
pub mod Pieces
