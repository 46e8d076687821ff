pub mod Hits
pub mod Searches
pub mod Laws
pub mod Equal
pub mod Unique
