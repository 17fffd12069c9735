pub mod Planes
pub mod Blocks
pub mod Needs
pub mod Depths
