pub mod Buckets
pub mod Entries
pub mod Summing
