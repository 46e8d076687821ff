pub mod Shape
pub mod Classify
pub mod Words
pub mod Scan
