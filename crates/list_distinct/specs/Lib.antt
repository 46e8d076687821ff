pub mod Walk
pub mod Answer
