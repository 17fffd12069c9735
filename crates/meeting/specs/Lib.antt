pub mod Calls
pub mod Meeting
pub mod Replay
