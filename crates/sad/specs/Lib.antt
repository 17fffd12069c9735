pub mod Difference
pub mod Needs
