pub mod Segments
pub mod Sort
pub mod Answer
