pub mod Transform
pub mod Steps
