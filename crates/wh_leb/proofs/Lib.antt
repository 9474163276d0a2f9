pub mod Powers
pub mod Steps
pub mod Combinators
pub mod Integers
pub mod Told
pub mod Counted
