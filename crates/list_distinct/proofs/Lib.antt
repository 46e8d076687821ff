pub mod Searches
pub mod Distincts
pub mod PlaceAnswers
pub mod DistinctAnswers
