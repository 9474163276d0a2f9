pub mod Format
pub mod Validity
pub mod Linking
pub mod Execution
pub mod Focus
pub mod Soundness
pub mod Laws
