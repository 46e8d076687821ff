pub mod Joined
pub mod Texts
pub mod Names
pub mod Forms
pub mod Rows
pub mod Page
