pub mod Counts
pub mod Quotients
pub mod Shifts
pub mod Words
pub mod Numerals
