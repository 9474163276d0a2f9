-- Reading a module, section by section.
use Rattle.std.proofs.Common.{◌≡◌, length, Some, eqb, arith}
use Rattle.wh_model.specs.declared.faults.FaultKind.TheVariants.{Magic, Version}
use Rattle.wh_model.specs.Format.{this_byte, exact_byte, u32, vec, vec_up_to, Module, empty_module, most_types, most_imports, most_functions, most_globals, most_exports, most_elements, most_segments, from_end, from_data, from_code, from_elements, from_start, from_exports, from_globals, from_memories, from_tables, from_functions, from_imports, from_types, preamble, functype, tabletype, limits, global, export, element, codes, segment}
use Rattle.wh_model.specs.Format.Modules.{«module»}
use Rattle.wh_model.specs.Format.Parts.{«import»}
use Rattle.wh_leb.specs.Reading.{ReadsBy, Anything, one_at, u32_at, vec_at, vec_up_to_at}
use Rattle.wh_leb.proofs.Combinators.{reads_then}
use Rattle.wh_leb.proofs.Integers.{reads_u32, reads_vec, reads_vec_up_to, reads_byte}
use Rattle.wh_decode.specs.ReadingModule.{functype_at, import_at, tabletype_at, limits_at, global_at, export_at, element_at, bodies_at, segment_at, end_at, segments_at, data_at, codes_at, code_section_at, element_list_at, elements_at, start_function_at, start_at, export_list_at, exports_at, global_list_at, globals_at, memory_list_at, memories_at, table_list_at, tables_at, function_list_at, functions_at, import_list_at, imports_at, type_list_at, types_at, preamble_at, module_at}
use Rattle.wh_decode.proofs.Productions.{reads_functype, reads_import, reads_tabletype, reads_limits, reads_global, reads_export, reads_element, reads_codes, reads_segment, decides_eq}
use Rattle.wh_decode.proofs.ReadsSections.{AtEnd, PartLaws, part_laws, end_laws}

laws_end : (m : Module) → PartLaws 11 (from_end m) (end_at m)
unfolding from_end end_at
laws_end m = end_laws 11 (length m.bodies ≡ length m.funcs) (eqb (length m.bodies) (length m.funcs)) m (decides_eq (length m.funcs) (length m.bodies))

laws_data : (m : Module) → PartLaws 10 (from_data m) (data_at m)
unfolding from_data data_at segments_at
laws_data m = part_laws 11 (vec_up_to most_segments segment) (vec_up_to_at most_segments segment_at) (λ ds. record m { segments = ds }) from_end end_at m 10 11 (omega arith) (omega arith) (reads_vec_up_to most_segments segment segment_at reads_segment) laws_end

laws_code : (m : Module) → PartLaws 9 (from_code m) (code_section_at m)
unfolding from_code code_section_at codes_at
laws_code m = part_laws 10 (codes (length m.funcs)) (bodies_at (length m.funcs)) (λ fs. record m { bodies = fs }) from_data data_at m 9 10 (omega arith) (omega arith) (reads_codes (length m.funcs)) laws_data

laws_elements : (m : Module) → PartLaws 8 (from_elements m) (elements_at m)
unfolding from_elements elements_at element_list_at
laws_elements m = part_laws 9 (vec_up_to most_elements element) (vec_up_to_at most_elements element_at) (λ es. record m { elements = es }) from_code code_section_at m 8 9 (omega arith) (omega arith) (reads_vec_up_to most_elements element element_at reads_element) laws_code

laws_start : (m : Module) → PartLaws 7 (from_start m) (start_at m)
unfolding from_start start_at start_function_at
laws_start m = part_laws 8 u32 u32_at (λ f. record m { start = Some f }) from_elements elements_at m 7 8 (omega arith) (omega arith) reads_u32 laws_elements

laws_exports : (m : Module) → PartLaws 6 (from_exports m) (exports_at m)
unfolding from_exports exports_at export_list_at
laws_exports m = part_laws 7 (vec_up_to most_exports export) (vec_up_to_at most_exports export_at) (λ es. record m { exports = es }) from_start start_at m 6 7 (omega arith) (omega arith) (reads_vec_up_to most_exports export export_at reads_export) laws_start

laws_globals : (m : Module) → PartLaws 5 (from_globals m) (globals_at m)
unfolding from_globals globals_at global_list_at
laws_globals m = part_laws 6 (vec_up_to most_globals global) (vec_up_to_at most_globals global_at) (λ gs. record m { globals = gs }) from_exports exports_at m 5 6 (omega arith) (omega arith) (reads_vec_up_to most_globals global global_at reads_global) laws_exports

laws_memories : (m : Module) → PartLaws 4 (from_memories m) (memories_at m)
unfolding from_memories memories_at memory_list_at
laws_memories m = part_laws 5 (vec limits) (vec_at limits_at) (λ ls. record m { memories = ls }) from_globals globals_at m 4 5 (omega arith) (omega arith) (reads_vec limits limits_at reads_limits) laws_globals

laws_tables : (m : Module) → PartLaws 3 (from_tables m) (tables_at m)
unfolding from_tables tables_at table_list_at
laws_tables m = part_laws 4 (vec tabletype) (vec_at tabletype_at) (λ ls. record m { tables = ls }) from_memories memories_at m 3 4 (omega arith) (omega arith) (reads_vec tabletype tabletype_at reads_tabletype) laws_memories

laws_functions : (m : Module) → PartLaws 2 (from_functions m) (functions_at m)
unfolding from_functions functions_at function_list_at
laws_functions m = part_laws 3 (vec_up_to most_functions u32) (vec_up_to_at most_functions u32_at) (λ xs. record m { funcs = xs }) from_tables tables_at m 2 3 (omega arith) (omega arith) (reads_vec_up_to most_functions u32 u32_at reads_u32) laws_tables

laws_imports : (m : Module) → PartLaws 1 (from_imports m) (imports_at m)
unfolding from_imports imports_at import_list_at
laws_imports m = part_laws 2 (vec_up_to most_imports «import») (vec_up_to_at most_imports import_at) (λ is. record m { imports = is }) from_functions functions_at m 1 2 (omega arith) (omega arith) (reads_vec_up_to most_imports «import» import_at reads_import) laws_functions

laws_types : (m : Module) → PartLaws 0 (from_types m) (types_at m)
unfolding from_types types_at type_list_at
laws_types m = part_laws 1 (vec_up_to most_types functype) (vec_up_to_at most_types functype_at) (λ ts. record m { types = ts }) from_imports imports_at m 0 1 (omega arith) (omega arith) (reads_vec_up_to most_types functype functype_at reads_functype) laws_imports

reads_preamble : ReadsBy Anything preamble preamble_at
unfolding preamble_at
reads_preamble =
    reads_then Anything (this_byte Magic 0x00) _ (one_at (exact_byte Magic 0x00)) _ (reads_byte Magic 0x00) (λ _.
    reads_then Anything (this_byte Magic 0x61) _ (one_at (exact_byte Magic 0x61)) _ (reads_byte Magic 0x61) (λ _.
    reads_then Anything (this_byte Magic 0x73) _ (one_at (exact_byte Magic 0x73)) _ (reads_byte Magic 0x73) (λ _.
    reads_then Anything (this_byte Magic 0x6d) _ (one_at (exact_byte Magic 0x6d)) _ (reads_byte Magic 0x6d) (λ _.
    reads_then Anything (this_byte Version 0x01) _ (one_at (exact_byte Version 0x01)) _ (reads_byte Version 0x01) (λ _.
    reads_then Anything (this_byte Version 0x00) _ (one_at (exact_byte Version 0x00)) _ (reads_byte Version 0x00) (λ _.
    reads_then Anything (this_byte Version 0x00) _ (one_at (exact_byte Version 0x00)) _ (reads_byte Version 0x00) (λ _.
    reads_byte Version 0x00)))))))

pub reads_module : ReadsBy AtEnd «module» module_at
unfolding «module» module_at
reads_module = reads_then AtEnd preamble (λ _. from_types empty_module) preamble_at (λ _. types_at empty_module) reads_preamble (λ _. (laws_types empty_module).is_read)
