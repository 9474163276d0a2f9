pub mod Transcripts
pub mod Stored
pub mod RequestedCalls
