pub mod Importance
pub mod Needs
