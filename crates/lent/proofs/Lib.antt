pub mod Sizes
pub mod Scores
pub mod Unique
pub mod Numbers
pub mod Placed
pub mod Histories
pub mod Contracts
