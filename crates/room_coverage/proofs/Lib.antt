pub mod Counts
pub mod Rows
pub mod Tables
pub mod Laws
