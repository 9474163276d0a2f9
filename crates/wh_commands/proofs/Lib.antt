pub mod Asking
pub mod Cut
pub mod Digits
pub mod Hex
pub mod OneCommand
pub mod Params
pub mod Parsing
