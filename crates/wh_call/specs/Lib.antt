pub mod Exports
pub mod Arguments
pub mod Ends
