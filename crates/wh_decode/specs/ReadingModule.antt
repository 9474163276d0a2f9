-- Reading a module from a place of a byte list.
use Rattle.std.specs.Prelude.{ℕ, zero, suc, ◌+◌, ◌-◌, List, [], ◌∷◌, ◌++◌, length, drop, Result, Ok, Option, Some, None, Bool, true, false, if◌then◌else◌, nat_lt, nat_eq}
use Rattle.std.specs.Str.{is_utf8}
use Rattle.std.proofs.Math.ListN.{replicate}
use Rattle.wh_model.specs.declared.faults.FaultKind.TheVariants.{Magic, Version, UnknownByte, Utf8, Limit, CountMismatch, SectionOrder}
use Rattle.wh_model.specs.declared.ValType.{ValType}
use Rattle.wh_model.specs.Format.Grammar.{exact_byte}
use Rattle.wh_model.specs.Format.Syntax.{FuncType, Limits, GlobalType, ImportDesc, of_func, of_global, Import, Global, Export, Element, Data, Body, Code, Module, empty_module}
use Rattle.wh_model.specs.Format.Opcodes.{value_type, mutability, imported_mutability, limits_flag, export_kind, import_kind}
use Rattle.wh_model.specs.Format.Limits.{most_bytes, most_types, most_params, most_imports, most_functions, most_globals, most_exports, most_elements, most_segments, most_locals, most_instructions}
use Rattle.wh_model.specs.declared.faults.DecodeError.{DecodeError}
use Rattle.wh_leb.specs.Reading.{◌>>=◌, fail, one_at, read_bytes_at, only_at, limited_at, times_at, exactly_at, exactly_from_at, u32_at, Reader, vec_at, vec_up_to_at}
use Rattle.wh_expr.specs.ReadingCode.{code_at}

-- ---- types

unfoldable pub functype_at : Reader FuncType
functype_at b at = do
  form ← one_at (exact_byte UnknownByte 0x60) b at
  params ← vec_up_to_at most_params (one_at value_type) b form.1
  results ← vec_at (one_at value_type) b params.1
  Ok (record { params = params.0; results = results.0 }, results.1)

abbrev pub limits_by_at : Bool → Reader Limits
limits_by_at false b at = do
  min ← u32_at b at
  Ok (record { min = min.0; max = None }, min.1)
limits_by_at true b at = do
  min ← u32_at b at
  max ← u32_at b min.1
  Ok (record { min = min.0; max = Some max.0 }, max.1)

unfoldable pub limits_at : Reader Limits
limits_at b at = do
  flag ← one_at limits_flag b at
  limits_by_at flag.0 b flag.1

unfoldable pub tabletype_at : Reader Limits
tabletype_at b at = do
  form ← one_at (exact_byte UnknownByte 0x70) b at
  limits_at b form.1

unfoldable pub globaltype_at : Reader GlobalType
globaltype_at b at = do
  t ← one_at value_type b at
  m ← one_at mutability b t.1
  Ok (record { value = t.0; mutability = m.0 }, m.1)

-- ---- parts of modules

unfoldable pub name_at : Reader (List ℕ)
name_at b at = do
  n ← u32_at b at
  only_at is_utf8 Utf8 (read_bytes_at n.0) b n.1

abbrev pub constant_at : Reader Code
constant_at = code_at None

abbrev pub importdesc_by_at : Bool → Reader ImportDesc
importdesc_by_at true b at = do
  x ← u32_at b at
  Ok (of_func x.0, x.1)
importdesc_by_at false b at = do
  t ← one_at value_type b at
  m ← one_at imported_mutability b t.1
  Ok (of_global t.0, m.1)

unfoldable pub importdesc_at : Reader ImportDesc
importdesc_at b at = do
  kind ← one_at import_kind b at
  importdesc_by_at kind.0 b kind.1

unfoldable pub import_at : Reader Import
import_at b at = do
  from ← name_at b at
  item ← name_at b from.1
  desc ← importdesc_at b item.1
  Ok (record { from = from.0; name = item.0; desc = desc.0 }, desc.1)

unfoldable pub global_at : Reader Global
global_at b at = do
  t ← globaltype_at b at
  e ← constant_at b t.1
  Ok (record { type = t.0; init = e.0 }, e.1)

unfoldable pub export_at : Reader Export
export_at b at = do
  item ← name_at b at
  kind ← one_at export_kind b item.1
  x ← u32_at b kind.1
  Ok (record { name = item.0; kind = kind.0; index = x.0 }, x.1)

unfoldable pub element_at : Reader Element
element_at b at = do
  x ← u32_at b at
  e ← constant_at b x.1
  ys ← vec_at u32_at b e.1
  Ok (record { table = x.0; offset = e.0; init = ys.0 }, ys.1)

unfoldable pub byte_vector_at : Reader (List ℕ)
byte_vector_at b at = do
  n ← u32_at b at
  read_bytes_at n.0 b n.1

unfoldable pub segment_at : Reader Data
segment_at b at = do
  x ← u32_at b at
  e ← constant_at b x.1
  bs ← byte_vector_at b e.1
  Ok (record { memory = x.0; offset = e.0; init = bs.0 }, bs.1)

unfoldable pub runs_at : ℕ → ℕ → Reader (List ValType)
runs_at zero declared b at = Ok ([], at)
runs_at (suc k) declared b at = do
  n ← limited_at (most_locals - declared) u32_at b at
  t ← one_at value_type b n.1
  rest ← runs_at k (declared + n.0) b t.1
  Ok (replicate n.0 t.0 ++ rest.0, rest.1)

unfoldable pub locals_at : Reader (List ValType)
locals_at b at = do
  k ← u32_at b at
  runs_at k.0 0 b k.1

unfoldable pub func_at : Reader Body
func_at b at = do
  declared ← locals_at b at
  code ← code_at (Some most_instructions) b declared.1
  Ok (record { locals = declared.0; code = code.0 }, code.1)

unfoldable pub body_at : Reader Body
body_at b at = do
  size ← u32_at b at
  exactly_at size.0 func_at b size.1

unfoldable pub bodies_at : ℕ → Reader (List Body)
bodies_at n b at = do
  k ← only_at (λ k. nat_eq k n) CountMismatch u32_at b at
  times_at k.0 body_at b k.1

-- ---- sections

unfoldable pub custom_at : Reader (List ℕ)
custom_at b at = do
  id ← one_at (exact_byte UnknownByte 0) b at
  size ← u32_at b id.1
  exactly_from_at size.0 name_at b size.1

abbrev pub begins_with : ℕ → List ℕ → Bool
begins_with n [] = false
begins_with n (m ∷ b) = nat_eq m n

-- the place after the custom sections that come next, at most n
unfoldable pub skip_from : ℕ → List ℕ → ℕ → Result ℕ DecodeError
skip_from zero b at = Ok at
skip_from (suc n) b at = if begins_with 0 (drop at b) then (do
  item ← custom_at b at
  skip_from n b item.1) else Ok at

unfoldable pub skip_at : List ℕ → ℕ → Result ℕ DecodeError
skip_at b at = skip_from (length b - at) b at

abbrev pub contents_at : {A : Type 0} → ℕ → Reader A → Reader A
contents_at id read b at = do
  byte ← one_at (exact_byte UnknownByte id) b at
  size ← u32_at b byte.1
  exactly_at size.0 read b size.1

abbrev pub present : {A : Type 0} → Result (A × ℕ) DecodeError → Result (Option A × ℕ) DecodeError
present read = read >>= λ x. Ok (Some x.0, x.1)

abbrev pub section_at : {A : Type 0} → ℕ → Reader A → Reader (Option A)
section_at id read b at = if begins_with id (drop at b) then present (contents_at id read b at) else Ok (None, at)

-- the custom sections, and the section of this id, if it stands here
unfoldable pub part_at : {A : Type 0} → ℕ → Reader A → Reader (Option A)
part_at id read b at = do
  next ← skip_at b at
  section_at id read b next

abbrev pub put_or : {A : Type 0} → (A → Module) → Module → Option A → Module
put_or put m None = m
put_or put m (Some x) = put x

abbrev pub end_of : {A : Type 0} → Bool → A → List ℕ → ℕ → Result (A × ℕ) DecodeError
end_of fits x [] at = if fits then Ok (x, at) else fail CountMismatch at
end_of fits x (n ∷ b) at = if nat_lt 11 n then fail UnknownByte at else fail SectionOrder at

-- ---- modules: from each section on

unfoldable pub end_at : Module → Reader Module
end_at m b at = do
  next ← skip_at b at
  end_of (nat_eq (length m.bodies) (length m.funcs)) m (drop next b) next

unfoldable pub segments_at : Reader (Option (List Data))
segments_at = part_at 11 (vec_up_to_at most_segments segment_at)

unfoldable pub data_at : Module → Reader Module
data_at m b at = do
  x ← segments_at b at
  end_at (put_or (λ ds. record m { segments = ds }) m x.0) b x.1

unfoldable pub codes_at : ℕ → Reader (Option (List Body))
codes_at n = part_at 10 (bodies_at n)

unfoldable pub code_section_at : Module → Reader Module
code_section_at m b at = do
  x ← codes_at (length m.funcs) b at
  data_at (put_or (λ fs. record m { bodies = fs }) m x.0) b x.1

unfoldable pub element_list_at : Reader (Option (List Element))
element_list_at = part_at 9 (vec_up_to_at most_elements element_at)

unfoldable pub elements_at : Module → Reader Module
elements_at m b at = do
  x ← element_list_at b at
  code_section_at (put_or (λ es. record m { elements = es }) m x.0) b x.1

unfoldable pub start_function_at : Reader (Option ℕ)
start_function_at = part_at 8 u32_at

unfoldable pub start_at : Module → Reader Module
start_at m b at = do
  x ← start_function_at b at
  elements_at (put_or (λ f. record m { start = Some f }) m x.0) b x.1

unfoldable pub export_list_at : Reader (Option (List Export))
export_list_at = part_at 7 (vec_up_to_at most_exports export_at)

unfoldable pub exports_at : Module → Reader Module
exports_at m b at = do
  x ← export_list_at b at
  start_at (put_or (λ es. record m { exports = es }) m x.0) b x.1

unfoldable pub global_list_at : Reader (Option (List Global))
global_list_at = part_at 6 (vec_up_to_at most_globals global_at)

unfoldable pub globals_at : Module → Reader Module
globals_at m b at = do
  x ← global_list_at b at
  exports_at (put_or (λ gs. record m { globals = gs }) m x.0) b x.1

unfoldable pub memory_list_at : Reader (Option (List Limits))
memory_list_at = part_at 5 (vec_at limits_at)

unfoldable pub memories_at : Module → Reader Module
memories_at m b at = do
  x ← memory_list_at b at
  globals_at (put_or (λ ls. record m { memories = ls }) m x.0) b x.1

unfoldable pub table_list_at : Reader (Option (List Limits))
table_list_at = part_at 4 (vec_at tabletype_at)

unfoldable pub tables_at : Module → Reader Module
tables_at m b at = do
  x ← table_list_at b at
  memories_at (put_or (λ ls. record m { tables = ls }) m x.0) b x.1

unfoldable pub function_list_at : Reader (Option (List ℕ))
function_list_at = part_at 3 (vec_up_to_at most_functions u32_at)

unfoldable pub functions_at : Module → Reader Module
functions_at m b at = do
  x ← function_list_at b at
  tables_at (put_or (λ xs. record m { funcs = xs }) m x.0) b x.1

unfoldable pub import_list_at : Reader (Option (List Import))
import_list_at = part_at 2 (vec_up_to_at most_imports import_at)

unfoldable pub imports_at : Module → Reader Module
imports_at m b at = do
  x ← import_list_at b at
  functions_at (put_or (λ is. record m { imports = is }) m x.0) b x.1

unfoldable pub type_list_at : Reader (Option (List FuncType))
type_list_at = part_at 1 (vec_up_to_at most_types functype_at)

unfoldable pub types_at : Module → Reader Module
types_at m b at = do
  x ← type_list_at b at
  imports_at (put_or (λ ts. record m { types = ts }) m x.0) b x.1

unfoldable pub preamble_at : Reader (Unit {0})
preamble_at b at = do
  m0 ← one_at (exact_byte Magic 0x00) b at
  m1 ← one_at (exact_byte Magic 0x61) b m0.1
  m2 ← one_at (exact_byte Magic 0x73) b m1.1
  m3 ← one_at (exact_byte Magic 0x6d) b m2.1
  v0 ← one_at (exact_byte Version 0x01) b m3.1
  v1 ← one_at (exact_byte Version 0x00) b v0.1
  v2 ← one_at (exact_byte Version 0x00) b v1.1
  one_at (exact_byte Version 0x00) b v2.1

unfoldable pub module_at : Reader Module
module_at b at = do
  begun ← preamble_at b at
  types_at empty_module b begun.1

unfoldable pub module_of : List ℕ → Result Module DecodeError
module_of b = if nat_lt most_bytes (length b) then fail Limit most_bytes else (do
  m ← module_at b 0
  Ok m.0)
