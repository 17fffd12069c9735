pub mod SadLaws
pub mod ChunkLaws
pub mod ByteLaws
pub mod Visible
pub mod Words
pub mod Unique
