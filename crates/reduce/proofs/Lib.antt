pub mod ReduceLaws
pub mod RowLaws
pub mod ChunkLaws
pub mod Promises
pub mod Words
pub mod Unique
