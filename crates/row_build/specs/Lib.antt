pub mod Answer
pub mod Aimed
pub mod Asked
