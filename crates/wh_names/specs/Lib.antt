pub mod NamePlaces
pub mod NameHash
pub mod NameChains
pub mod NameTexts
pub mod NameIndex
