pub mod Lists
pub mod Flags
pub mod Walks
pub mod Gaps
pub mod Answers
