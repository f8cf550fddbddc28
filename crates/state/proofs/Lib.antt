pub mod Awaiting
pub mod FitLaws
pub mod FitParts
