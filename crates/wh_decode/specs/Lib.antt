pub mod ReadingModule
pub mod Items
pub mod Beginnings
pub mod Promises
