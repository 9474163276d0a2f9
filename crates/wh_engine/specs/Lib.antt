pub mod Finding
pub mod RepresentedScript
pub mod Obeying
pub mod Draining
pub mod Printing
pub mod Stored
