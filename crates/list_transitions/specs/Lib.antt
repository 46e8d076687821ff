pub mod Transition
pub mod Intervals
pub mod Bytes
pub mod Values
pub mod Read
pub mod Walk
pub mod Ends
