pub mod Given
pub mod ConstantWords
pub mod ConstantExpressions
pub mod InWords
pub mod InBasis
pub mod Begins
