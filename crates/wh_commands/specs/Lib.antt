pub mod ParsedCommands
pub mod Laws
pub mod WordsLeft
