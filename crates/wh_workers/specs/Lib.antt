pub mod EachAt
pub mod LentHelpers
pub mod Serving
