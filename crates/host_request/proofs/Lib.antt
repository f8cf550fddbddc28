pub mod Laws
pub mod Packets
pub mod Outcome
pub mod Tells
