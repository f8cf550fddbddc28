pub mod Requests
pub mod Judges
