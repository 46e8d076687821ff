pub mod Overs
pub mod Going
pub mod Answers
