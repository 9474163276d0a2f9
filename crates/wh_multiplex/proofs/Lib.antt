pub mod Carrying
pub mod Moved
pub mod Queued
pub mod Sent
pub mod Spelled
