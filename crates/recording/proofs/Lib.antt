pub mod Laws
pub mod Reading
pub mod Written
pub mod Exactly
pub mod Back
pub mod Steady
pub mod Numbers
