-- Types and the parts of modules in the binary format, sections 5.2.4, 5.3 and 5.5.4 to 5.5.14 of the standard.
use Rattle.std.specs.Prelude.{◌≡◌, ℕ, zero, suc, ◌+◌, ◌-◌, List, [], ◌++◌, Some, None, Bool, true, false, IsUtf8}
use Rattle.std.proofs.Math.ListN.{replicate}
use Rattle.wh_model.specs.declared.faults.FaultKind.TheVariants.{UnknownByte, Utf8, CountMismatch}
use Rattle.wh_model.specs.declared.ValType.{ValType}
use Rattle.wh_model.specs.Format.Grammar.{Grammar, gives, ◌>>=◌, ◌>>◌, one_of, this_byte, bytes, only_if, up_to, times, exactly}
use Rattle.wh_model.specs.Format.Leb.{u32, vec, vec_up_to}
use Rattle.wh_model.specs.Format.Syntax.{FuncType, Limits, GlobalType, ImportDesc, of_func, of_global, Import, Global, Export, Element, Data, Body, Code}
use Rattle.wh_model.specs.Format.Opcodes.{value_type, mutability, imported_mutability, limits_flag, export_kind, import_kind}
use Rattle.wh_model.specs.Format.Limits.{most_params, most_locals, most_instructions}
use Rattle.wh_model.specs.Format.Instructions.{expr}

-- ---- types (5.3)

abbrev pub valtype : Grammar ValType
valtype = one_of value_type

-- functype (5.3.3)
abbrev pub functype : Grammar FuncType
functype = do
  this_byte UnknownByte 0x60
  params ← vec_up_to most_params valtype
  results ← vec valtype
  gives (record { params = params; results = results })

-- limits (5.3.4)
abbrev pub limits_by : Bool → Grammar Limits
limits_by false = do
  min ← u32
  gives (record { min = min; max = None })
limits_by true = do
  min ← u32
  max ← u32
  gives (record { min = min; max = Some max })

abbrev pub limits : Grammar Limits
limits = one_of limits_flag >>= limits_by

-- tabletype (5.3.6)
abbrev pub tabletype : Grammar Limits
tabletype = do
  this_byte UnknownByte 0x70
  limits

-- globaltype (5.3.7)
abbrev pub globaltype : Grammar GlobalType
globaltype = do
  t ← valtype
  m ← one_of mutability
  gives (record { value = t; mutability = m })

-- ---- parts of modules

-- name (5.2.4)
abbrev pub name : Grammar (List ℕ)
name = do
  n ← u32
  only_if IsUtf8 Utf8 (bytes n)

-- an expression that gives a value once, without a limit on its instructions
abbrev pub constant : Grammar Code
constant = expr None

-- import (5.5.5)
abbrev pub importdesc_by : Bool → Grammar ImportDesc
importdesc_by true = do
  x ← u32
  gives (of_func x)
importdesc_by false = do
  t ← valtype
  m ← one_of imported_mutability
  gives (of_global t)

abbrev pub importdesc : Grammar ImportDesc
importdesc = one_of import_kind >>= importdesc_by

abbrev pub «import» : Grammar Import
«import» = do
  from ← name
  item ← name
  desc ← importdesc
  gives (record { from = from; name = item; desc = desc })

-- global (5.5.9)
abbrev pub global : Grammar Global
global = do
  t ← globaltype
  e ← constant
  gives (record { type = t; init = e })

-- export (5.5.10)
abbrev pub export : Grammar Export
export = do
  item ← name
  kind ← one_of export_kind
  x ← u32
  gives (record { name = item; kind = kind; index = x })

-- elem (5.5.12)
abbrev pub element : Grammar Element
element = do
  x ← u32
  e ← constant
  ys ← vec u32
  gives (record { table = x; offset = e; init = ys })

-- data (5.5.14)
abbrev pub byte_vector : Grammar (List ℕ)
byte_vector = u32 >>= bytes

abbrev pub segment : Grammar Data
segment = do
  x ← u32
  e ← constant
  bs ← byte_vector
  gives (record { memory = x; offset = e; init = bs })

-- locals (5.5.13): runs of one type, after `declared` that are declared
abbrev pub runs : ℕ → ℕ → Grammar (List ValType)
runs zero declared = gives []
runs (suc k) declared = do
  n ← up_to (most_locals - declared) u32
  t ← valtype
  rest ← runs k (declared + n)
  gives (replicate n t ++ rest)

abbrev pub locals : Grammar (List ValType)
locals = do
  k ← u32
  runs k 0

-- func and code (5.5.13)
abbrev pub func : Grammar Body
func = do
  declared ← locals
  code ← expr (Some most_instructions)
  gives (record { locals = declared; code = code })

abbrev pub code : Grammar Body
code = do
  size ← u32
  exactly size func

-- as many as there are functions
abbrev pub codes : ℕ → Grammar (List Body)
codes n = do
  k ← only_if (λ k. k ≡ n) CountMismatch u32
  times k code
