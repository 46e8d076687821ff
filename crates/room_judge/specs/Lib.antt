pub mod Standing
pub mod Judge
