pub mod Arms
pub mod Classes
pub mod ByteOne
