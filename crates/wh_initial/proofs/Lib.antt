pub mod WordLemmas
pub mod TableLemmas
pub mod InWordsLemmas
pub mod ValueLemmas
pub mod FuncLemmas
pub mod SegmentLemmas
pub mod Preparing
pub mod Instances
