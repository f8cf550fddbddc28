pub mod Request
pub mod Build
