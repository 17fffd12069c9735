pub mod Satd
