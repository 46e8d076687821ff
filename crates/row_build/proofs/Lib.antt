pub mod Living
pub mod Aiming
pub mod Joining
pub mod Parting
pub mod Asking
pub mod Building
