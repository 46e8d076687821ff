pub mod Masks
pub mod Walk
pub mod Record
pub mod Answer
