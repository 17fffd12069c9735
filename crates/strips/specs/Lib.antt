pub mod Carry
pub mod Rows
pub mod Strips
pub mod Cuts
pub mod Promises
pub mod Needs
