pub mod PageLinks
pub mod Order
pub mod Line
pub mod Index
pub mod Tables
