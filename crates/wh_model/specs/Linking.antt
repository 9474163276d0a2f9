-- Which item of the host each import is, and which bytes are accepted as a module.
pub mod Imports
pub mod Accepting
pub use Rattle.wh_model.specs.Linking.Imports.{item_name, value_of, ImportsItem, HasItem, IsKnown, LacksItem, Links, IsFirstFault}
pub use Rattle.wh_model.specs.Linking.Accepting.{IsModule, IsAccepted}
