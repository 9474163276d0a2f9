pub mod Agreement
pub mod Blanks
pub mod Counting
pub mod Gates
pub mod Handover
pub mod Lending
pub mod Sweeping
pub mod Working
