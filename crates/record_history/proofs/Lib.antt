pub mod SameAct
pub mod Cut
pub mod Lasting
pub mod Recorded
pub mod Replayed
pub mod Taped
