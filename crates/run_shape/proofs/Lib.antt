pub mod Reading
pub mod High
