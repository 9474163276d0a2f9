-- Validity (3), and the limits of this host within it.
pub mod Typing
pub mod Valid
pub mod Heights
pub use Rattle.wh_model.specs.Validity.Typing.{operand, Context, under, load_type, store_type, HasMemory, Aligned, conversion_type, OpType, HasType}
pub use Rattle.wh_model.specs.Validity.Typing.{no_more, then_op, then_block, then_loop, then_if, then_if_else}
pub use Rattle.wh_model.specs.Validity.Valid.{ValidType, WithinBound, func_first, imported_funcs, global_first, imported_globals, Name, IsContext}
pub use Rattle.wh_model.specs.Validity.Valid.{ConstantOf, ValidBody, ValidBodies, ValidGlobal, HasFunc, ValidElement, ValidData, ValidStart, Exported}
pub use Rattle.wh_model.specs.Validity.Valid.{DifferentNames, most_pages, most_entries, IsValidIn}
pub use Rattle.wh_model.specs.Validity.Heights.{operands, carried, no_type, taken, given, lowered, height_behind, greatest, body_height, most_height}
pub use Rattle.wh_model.specs.Validity.Heights.{most_locals, most_first_entries, FitsBody, FitBodies, FitsTable, FitsIn}
unfoldable pub use Rattle.wh_model.specs.Validity.Heights.{Fits}
