pub mod Layout
pub mod Represents
pub mod ControlSteps
pub mod Next
pub mod Stored
pub mod Storage
pub mod Parts
