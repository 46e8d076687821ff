pub mod NumberUnique
pub mod Calls
pub mod RecordUnique
