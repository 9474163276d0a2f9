pub mod Chains
pub mod Counts
pub mod Marks
pub mod Parts
