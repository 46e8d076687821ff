pub mod Chain
pub mod Found
pub mod Laws
