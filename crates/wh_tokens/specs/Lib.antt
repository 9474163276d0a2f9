pub mod TokenOwners
pub mod GrantLines
pub mod Bearer
