pub mod Literals
pub mod Laws
pub mod Unique
