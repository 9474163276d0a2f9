mod Callable
mod Ending
pub mod Lists
pub mod Starting
