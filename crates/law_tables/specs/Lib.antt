pub mod Table
pub mod Normal
pub mod Whole
pub mod Rules
pub mod Places
pub mod Fronts
