pub mod Access
pub mod Askers
pub mod Faults
pub mod FrontAnswers
