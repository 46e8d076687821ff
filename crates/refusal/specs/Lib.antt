pub mod Said
pub mod Lists
pub mod Fixed
pub mod Header
