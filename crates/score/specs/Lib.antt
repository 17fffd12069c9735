pub mod Search
pub mod Deque
pub mod Scores
pub mod Cut
pub mod Costs
pub mod Numbers
