pub mod State
pub mod Refusals
