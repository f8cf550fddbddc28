pub mod Profile
pub mod Formed
