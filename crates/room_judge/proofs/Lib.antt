pub mod Comparing
pub mod Stood
pub mod Plain
pub mod Filled
pub mod Tables
