pub mod Wrap
pub mod Put
pub mod StateRoundTrip
