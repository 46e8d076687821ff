pub mod Tags
pub mod Packs
pub mod Holds
pub mod Words
pub mod Puts
pub mod Columns
pub mod Keeps
pub mod Answers
