pub mod Taken
pub mod Decimal
pub mod Shows
pub mod Unique
