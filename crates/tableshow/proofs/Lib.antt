pub mod Shows
pub mod Filling
pub mod Parts
