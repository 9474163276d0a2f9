pub mod Separators
pub mod Readings
pub mod Paths
pub mod Queries
pub mod Laws
