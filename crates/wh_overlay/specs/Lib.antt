pub mod LaidBack
pub mod LaidPages
pub mod Over
pub mod Stored
