pub mod Laws
pub mod Spelled
pub mod FieldLaws
