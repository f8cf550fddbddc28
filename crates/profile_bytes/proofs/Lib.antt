pub mod AreaLaws
pub mod ProfileRoundTrip
