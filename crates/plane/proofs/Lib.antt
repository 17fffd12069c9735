pub mod PlaneLaws
pub mod PairLaws
pub mod SampleLaws
pub mod BlockLaws
pub mod SquareLaws
pub mod Unique
pub mod Words
pub mod WordUnique
