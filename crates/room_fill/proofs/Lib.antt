pub mod Writing
pub mod Parts
pub mod Records
pub mod Sizes
pub mod Tables
