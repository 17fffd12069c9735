pub mod Octets
pub mod Needs
