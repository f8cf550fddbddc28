pub mod Packet
pub mod Frame
