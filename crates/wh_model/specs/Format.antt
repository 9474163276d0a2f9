-- The binary format (5), the abstract syntax (2) that it spells, and the faults of bytes.
pub mod Grammar
pub mod Leb
pub mod Syntax
pub mod Opcodes
pub mod Limits
pub mod Instructions
pub mod Parts
pub mod Modules
pub mod Spelling
pub mod Numbering
pub use Rattle.wh_model.specs.Format.Grammar.{this_byte, gives, bytes, HeadBreaks, one_of, exact_byte, only_if, up_to, Each, times, EndsAs, exactly}
pub use Rattle.wh_model.specs.Format.Grammar.{exactly_from}
pub use Rattle.wh_model.specs.Format.Leb.{IsUnsigned, BreaksUnsigned, IsSignedByte, IsSigned, BreaksSigned, unsigned, signed, u32, s32, s64, vec}
pub use Rattle.wh_model.specs.Format.Leb.{vec_up_to}
pub use Rattle.wh_model.specs.Format.Syntax.{nothing, load, store, Op, unreachable, nop, br, br_if, br_table, return, call, call_indirect}
pub use Rattle.wh_model.specs.Format.Syntax.{drop_operand, select, local_get, local_set, local_tee, global_get, global_set, memory_size, memory_grow}
pub use Rattle.wh_model.specs.Format.Syntax.{i32_const, i64_const, test, comparison, unary, binary, conversion, Code, plain, block, loop, if_then}
pub use Rattle.wh_model.specs.Format.Syntax.{if_else, Instr, single, block_start, loop_start, if_start, else_mark, end_mark, flatten, join}
pub use Rattle.wh_model.specs.Format.Syntax.{expression, FuncType, GlobalType, ImportDesc, of_func, of_global, Import, Global, Export, Element, Data}
pub use Rattle.wh_model.specs.Format.Syntax.{Body, Module, empty_module}
pub use Rattle.wh_model.specs.Format.Opcodes.{value_type, block_type, mutability, imported_mutability, limits_flag, export_kind, import_kind}
pub use Rattle.wh_model.specs.Format.Opcodes.{control_opcode, variable_opcode, operator_from, full_loads, narrow_loads, full_stores, narrow_stores}
pub use Rattle.wh_model.specs.Format.Opcodes.{comparisons, unary_operators, extensions_i32, extensions_i64, binary_operators, class_or, memory_opcode}
pub use Rattle.wh_model.specs.Format.Opcodes.{single_opcode, numeric_opcode, between, is_float_opcode, or_else}
unfoldable pub use Rattle.wh_model.specs.Format.Opcodes.{opcode}
pub use Rattle.wh_model.specs.Format.Limits.{most_bytes, most_types, most_params, most_imports, most_functions, most_globals, most_exports}
pub use Rattle.wh_model.specs.Format.Limits.{most_elements, most_segments, most_locals, most_instructions, most_nested, most_labels, depth}
pub use Rattle.wh_model.specs.Format.Limits.{SmallInstr, FewInstructions, SmallCode, SmallBody, SmallModule}
pub use Rattle.wh_model.specs.Format.Instructions.{blocktype, with_index, with_address, opening, operands, instr, Front, in_body, in_block, in_loop}
pub use Rattle.wh_model.specs.Format.Instructions.{in_then, in_else, if_room, else_in, allowed, may_come, next_instr, NextBreaks, expr}
pub use Rattle.wh_model.specs.Format.Parts.{valtype, functype, limits, limits_by, tabletype, globaltype, name, constant, importdesc_by, importdesc}
pub use Rattle.wh_model.specs.Format.Parts.{global, export, element, byte_vector, segment, locals, runs, func, code, codes}
pub use Rattle.wh_model.specs.Format.Modules.{BeginsWith, custom, customs_then, section, section_or, part, EndBreaks, ends_with, preamble}
unfoldable pub use Rattle.wh_model.specs.Format.Modules.{from_end, from_data, from_code, from_elements, from_start, from_exports, from_globals}
unfoldable pub use Rattle.wh_model.specs.Format.Modules.{from_memories, from_tables, from_functions, from_imports, from_types}
unfoldable pub use Rattle.wh_model.specs.Format.Spelling.{AreBytes, Spells, Small, IsBroken}
pub use Rattle.wh_model.specs.Format.Numbering.{fault_number, valid_number, import_number, trap_number}
