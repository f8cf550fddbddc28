pub mod Codes
pub mod FirstFault
pub mod OneAnswer
