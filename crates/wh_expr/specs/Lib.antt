pub mod ReadingCode
pub mod Stack
