pub mod CommandLaws
pub mod Granted
pub mod There
