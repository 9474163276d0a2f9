pub mod Leaves
pub mod Parts
pub mod Table
pub mod Seeking
