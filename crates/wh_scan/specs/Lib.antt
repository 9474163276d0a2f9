pub mod Pass
pub mod Sampling
