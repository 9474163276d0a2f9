pub mod LinkRefusals
pub mod Resolving
pub mod LinkedState
pub mod Typed
pub mod Tags
pub mod Records
