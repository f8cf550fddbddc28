pub mod Driving
pub mod Playing
pub mod Called
pub mod Deliveries
