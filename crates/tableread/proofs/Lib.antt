pub mod Lines
pub mod Back
pub mod Small
pub mod Told
