pub mod Loops
pub mod Ranged
pub mod Exits
pub mod Described
