pub mod Looks
pub mod Never
