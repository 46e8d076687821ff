pub mod Records
pub mod There
pub mod Answers
pub mod Laws
