pub mod RunPlaces
pub mod StateRun
