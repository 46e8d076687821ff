pub mod Fields
pub mod Maximal
