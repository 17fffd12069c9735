pub mod Coded
pub mod Needs
pub mod Histories
pub mod Promises
