pub mod Inserts
pub mod Sorts
pub mod Swaps
pub mod Puts
pub mod Answers
