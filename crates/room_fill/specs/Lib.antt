pub mod Room
pub mod Flagged
