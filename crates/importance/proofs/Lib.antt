pub mod Refusals
pub mod BlockSums
pub mod FourRows
pub mod RowLooks
pub mod Words
pub mod Unique
