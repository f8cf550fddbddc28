pub mod Bytes
pub mod Plain
pub mod Calls
pub mod Running
pub mod Examples
