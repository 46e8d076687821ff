pub mod Written
pub mod Flags
pub mod Counts
