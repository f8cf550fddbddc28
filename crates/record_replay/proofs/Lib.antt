pub mod Laws
pub mod Playing
