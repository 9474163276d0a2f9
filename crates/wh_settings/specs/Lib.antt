pub mod Laws
pub mod Spelled
pub mod View
pub mod Hashing
