pub mod Choosing
pub mod LentBuffers
pub mod Providing
pub mod TicketViews
pub mod Together
pub mod Whole
