pub mod Verdicts
pub mod ModuleVerdicts
