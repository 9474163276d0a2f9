mod Agreeing
pub mod Grown
mod Gates
mod Handing
pub mod Runs
mod Tallies
mod Views
