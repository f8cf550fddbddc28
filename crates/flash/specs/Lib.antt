pub mod Effects
pub mod Acts
pub mod Meets
