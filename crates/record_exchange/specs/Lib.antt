pub mod Line
pub mod Exchange
