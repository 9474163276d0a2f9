pub mod Columns
pub mod Counts
pub mod Epochs
pub mod Leaves
pub mod LeafCounts
pub mod Seeking
