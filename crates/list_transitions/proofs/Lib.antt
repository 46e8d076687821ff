pub mod Order
pub mod Pairs
pub mod Values
pub mod Records
pub mod Accepted
pub mod Holds
pub mod Puts
pub mod Gathers
