pub mod Row
pub mod Build
pub mod Demand
