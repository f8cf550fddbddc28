pub mod Put
pub mod Widths
pub mod RoundTrip
pub mod Lasting
