pub mod Lists
pub mod Fronts
pub mod Flags
pub mod Apart
