pub mod Reduce
pub mod Promises
pub mod Needs
