pub mod Beginning
pub mod Begun
pub mod Sevens
pub mod Loops
pub mod Once
pub mod Draining
pub mod Serving
pub mod Standing
