pub mod Copied
pub mod Laws
pub mod Part
pub mod RoundTrip
pub mod Same
pub mod There
