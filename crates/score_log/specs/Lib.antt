pub mod Records
pub mod Log
pub mod Needs
pub mod Promises
