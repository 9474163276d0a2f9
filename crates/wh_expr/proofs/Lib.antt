pub mod Fronts
pub mod Next
pub mod Expressions
pub mod Immediates
pub mod Loop
