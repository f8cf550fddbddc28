pub mod Divisors
pub mod Exact
pub mod Laws
pub mod Table23
