pub mod Laws
pub mod Units
