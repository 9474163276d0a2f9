mod InRounds
pub mod OwnTurns
mod InHand
mod Paged
mod RunQueues
mod Scans
