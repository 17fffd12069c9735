pub mod CostLaws
pub mod Unique
