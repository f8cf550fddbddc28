pub mod Building
pub mod Contents
pub mod Framed
pub mod Frames
pub mod Gathering
pub mod Laws
pub mod Partial
pub mod There
