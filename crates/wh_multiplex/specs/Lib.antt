pub mod Laws
pub mod Multiplexing
pub mod StreamFrames
