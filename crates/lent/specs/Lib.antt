pub mod Places
pub mod Lent
pub mod Histories
