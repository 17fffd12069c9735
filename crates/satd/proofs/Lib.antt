pub mod SatdLaws
pub mod Unique
