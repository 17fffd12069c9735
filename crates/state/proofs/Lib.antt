pub mod Tests
pub mod Room
pub mod Well
pub mod Fine
pub mod Unique
pub mod Refused
