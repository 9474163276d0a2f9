pub mod Accepted
pub mod ParsedArguments
pub mod Laws
pub mod ProgramOutput
