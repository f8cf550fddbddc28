pub mod Awaits
pub mod State
pub mod Fits
pub mod Fit
