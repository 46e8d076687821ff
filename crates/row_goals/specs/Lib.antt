pub mod Edges
pub mod Goals
