pub mod Given
pub mod Named
pub mod Cutting
mod Written
mod Coming
mod BurstTurns
mod Opened
mod Beginnings
mod Closing
mod Settled
mod Advanced
mod Requested
mod Newcomers
mod Taken
mod Bounds
pub mod Told
pub mod Finished
pub mod Duplicates
