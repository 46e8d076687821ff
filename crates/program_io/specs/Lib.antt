pub mod Bytes
pub mod Decimal
pub mod Shown
pub mod Wrote
