pub mod Outs
pub mod Carrying
