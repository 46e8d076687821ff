pub mod Joins
pub mod Over
pub mod Written
