pub mod Shown
pub mod Laid
pub mod ShownLaid
pub mod Stored
pub mod View
