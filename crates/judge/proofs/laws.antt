pub mod Judge
pub mod Named
