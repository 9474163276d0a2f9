pub mod WordLemmas
pub mod FaultLemmas
pub mod HostLemmas
pub mod StandingLemmas
