pub mod Start
pub mod Modes
