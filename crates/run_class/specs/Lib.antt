pub mod Byte
pub mod Class
pub mod Seen
