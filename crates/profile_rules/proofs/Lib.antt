pub mod Laws
pub mod Judging
pub mod Accepted
pub mod Examples
