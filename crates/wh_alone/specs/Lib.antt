pub mod ModuleCalls
pub mod Stored
pub mod InstanceStates
pub mod Journal
pub mod Stages
pub mod FirstStages
pub mod ModuleRuns
