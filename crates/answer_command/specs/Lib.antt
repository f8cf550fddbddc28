pub mod Grants
pub mod Granted
