pub mod Unique
pub mod Walked
