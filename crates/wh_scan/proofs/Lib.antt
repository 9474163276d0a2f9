pub mod Gone
pub mod Passing
pub mod ByNumber
pub mod OneOrder
pub mod Few
