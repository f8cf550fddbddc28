pub mod Step
pub mod Feed
pub mod Records
pub mod Fits
