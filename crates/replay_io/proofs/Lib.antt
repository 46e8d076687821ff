pub mod Reading
pub mod Putting
pub mod Unique
