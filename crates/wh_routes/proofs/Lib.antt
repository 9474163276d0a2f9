pub mod Cutting
pub mod Numbers
mod Digests
mod Apart
mod Slashes
mod Once
pub mod Pairs
