pub mod Layout
pub mod Limits
