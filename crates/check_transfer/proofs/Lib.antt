pub mod TransferLaws
pub mod WriteGranted
pub mod Boundary
pub mod There
