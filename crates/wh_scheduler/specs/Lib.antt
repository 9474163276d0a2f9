pub mod InHand
pub mod RunQueues
pub mod Stored
