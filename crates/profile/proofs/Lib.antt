pub mod Beyond
pub mod Places
pub mod Search
pub mod Table
