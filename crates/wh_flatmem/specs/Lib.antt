pub mod FlatMemoryState
