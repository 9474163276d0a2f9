pub mod ItemLemmas
pub mod ResolvingLemmas
pub mod RecordLemmas
