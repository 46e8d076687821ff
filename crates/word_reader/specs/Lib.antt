pub mod Parse
pub mod Records
