mod Kept
mod Once
mod Reserved
mod Seen
