pub mod Cutting
pub mod Chained
pub mod Places
pub mod Indexed
