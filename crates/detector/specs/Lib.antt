pub mod Rules
pub mod Step
pub mod Fresh
pub mod Runs
pub mod Histories
pub mod Numbers
pub mod Needs
