mod Backed
pub mod Leavings
mod Lending
mod Viewing
mod Turns
mod Splitting
pub mod Spending
mod BesideTurns
mod Unmoved
mod RunnerLists
mod RunnerTurns
mod Reaching
pub mod Hosts
mod Fields
pub mod KeptModules
mod Requests
mod Comers
mod Paged
mod Carrying
mod Offering
mod Showings
mod PutOut
mod ExportsThere
mod Exporters
mod Tellings
mod Ordering
mod Sharings
mod Reading
mod Reports
mod Enrolling
mod Charges
mod KeptCounts
mod FewerSharing
mod Begun
mod ForkedHosts
