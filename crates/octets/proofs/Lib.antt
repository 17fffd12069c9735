pub mod Over
pub mod Laws
pub mod Words
pub mod Patterns
pub mod Unique
