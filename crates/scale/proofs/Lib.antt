pub mod ScaleLaws
pub mod Unique
