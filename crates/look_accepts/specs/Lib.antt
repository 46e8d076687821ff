pub mod Accept
pub mod Record
