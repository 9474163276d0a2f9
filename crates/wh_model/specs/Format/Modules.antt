-- Sections and modules in the binary format, sections 5.5.2, 5.5.3 and 5.5.15 of the standard.
use Rattle.std.specs.Prelude.{◌≡◌, ℕ, ◌+◌, ◌⊎◌, List, [], ◌∷◌, ◌++◌, length, Some, if◌then◌else◌, nat_lt}
use Rattle.wh_model.specs.declared.faults.FaultKind.{FaultKind}
use Rattle.wh_model.specs.declared.faults.FaultKind.TheVariants.{Magic, Version, UnknownByte, CountMismatch, SectionOrder}
use Rattle.wh_model.specs.Format.Grammar.{Grammar, ◌>>=◌, ◌>>◌, this_byte, Each, exactly, exactly_from}
use Rattle.wh_model.specs.Format.Leb.{u32, vec, vec_up_to}
use Rattle.wh_model.specs.Format.Syntax.{Module, empty_module}
use Rattle.wh_model.specs.Format.Limits.{most_types, most_imports, most_functions, most_globals, most_exports, most_elements, most_segments}
use Rattle.wh_model.specs.Format.Parts.{functype, tabletype, limits, name, «import», global, export, element, segment, codes}

-- ---- sections (5.5.2)

abbrev pub BeginsWith : ℕ → List ℕ → Type 0
BeginsWith n [] = ⊥
BeginsWith n (m ∷ b) = m ≡ n

-- customsec (5.5.3): a name, and any bytes
abbrev pub custom : Grammar (List ℕ)
custom = do
  this_byte UnknownByte 0
  size ← u32
  exactly_from size name

-- customsec*, and what is after them
abbrev pub customs_then : {A : Type 0} → Grammar A → Grammar A
customs_then next = record {
  spells =
      λ x b. (names : List (List ℕ)) × (t u : List ℕ) × (b ≡ t ++ u) × Each custom.spells names t × next.spells x u;
  within =
      λ x b. (names : List (List ℕ)) × (t u : List ℕ) × (b ≡ t ++ u) × Each custom.within names t × next.within x u;
  breaks =
      λ b kind k. (names : List (List ℕ)) × (t u : List ℕ) × (j : ℕ) × (b ≡ t ++ u) × (k ≡ length t + j)
      × Each custom.within names t
      × ((BeginsWith 0 u × custom.breaks u kind j) ⊎ ((BeginsWith 0 u → ⊥) × next.breaks u kind j));
}

-- section_N: the id, the size, the contents
abbrev pub section : {A : Type 0} → ℕ → Grammar A → Grammar A
section id contents = do
  this_byte UnknownByte id
  size ← u32
  exactly size contents

-- a section that may be missing, and what is after it
abbrev pub section_or : {A B : Type 0} → ℕ → Grammar A → (A → Grammar B) → Grammar B → Grammar B
section_or id contents next missing = record {
  spells = λ y b. (section id contents >>= next).spells y b ⊎ missing.spells y b;
  within = λ y b. (section id contents >>= next).within y b ⊎ missing.within y b;
  breaks =
      λ b kind k. (BeginsWith id b × (section id contents >>= next).breaks b kind k)
      ⊎ ((BeginsWith id b → ⊥) × missing.breaks b kind k);
}

-- A section among custom ones. What it gives is put into the module read so far, m; without it m goes on as it is.
abbrev pub part : {A : Type 0} → ℕ → Grammar A → (A → Module) → (Module → Grammar Module) → Module → Grammar Module
part id contents put next m = customs_then (section_or id contents (λ x. next (put x)) (next m))

-- The end of the module, where P holds. A section's id that stands here repeats one, doesn't rise, or is none.
abbrev pub EndBreaks : Type 0 → List ℕ → FaultKind → Type 0
EndBreaks P [] kind = (P → ⊥) × (kind ≡ CountMismatch)
EndBreaks P (n ∷ b) kind = kind ≡ (if nat_lt 11 n then UnknownByte else SectionOrder)

abbrev pub ends_with : {A : Type 0} → Type 0 → A → Grammar A
ends_with P x = record {
  spells = λ y b. (y ≡ x) × (b ≡ []) × P;
  within = λ y b. (y ≡ x) × (b ≡ []) × P;
  breaks = λ b kind k. (k ≡ 0) × EndBreaks P b kind;
}

-- ---- modules (5.5.15): from each section on

unfoldable pub from_end : Module → Grammar Module
from_end m = customs_then (ends_with (length m.bodies ≡ length m.funcs) m)

unfoldable pub from_data : Module → Grammar Module
from_data m = part 11 (vec_up_to most_segments segment) (λ ds. record m { segments = ds }) from_end m

unfoldable pub from_code : Module → Grammar Module
from_code m = part 10 (codes (length m.funcs)) (λ fs. record m { bodies = fs }) from_data m

unfoldable pub from_elements : Module → Grammar Module
from_elements m = part 9 (vec_up_to most_elements element) (λ es. record m { elements = es }) from_code m

unfoldable pub from_start : Module → Grammar Module
from_start m = part 8 u32 (λ x. record m { start = Some x }) from_elements m

unfoldable pub from_exports : Module → Grammar Module
from_exports m = part 7 (vec_up_to most_exports export) (λ es. record m { exports = es }) from_start m

unfoldable pub from_globals : Module → Grammar Module
from_globals m = part 6 (vec_up_to most_globals global) (λ gs. record m { globals = gs }) from_exports m

unfoldable pub from_memories : Module → Grammar Module
from_memories m = part 5 (vec limits) (λ ls. record m { memories = ls }) from_globals m

unfoldable pub from_tables : Module → Grammar Module
from_tables m = part 4 (vec tabletype) (λ ls. record m { tables = ls }) from_memories m

unfoldable pub from_functions : Module → Grammar Module
from_functions m = part 3 (vec_up_to most_functions u32) (λ xs. record m { funcs = xs }) from_tables m

unfoldable pub from_imports : Module → Grammar Module
from_imports m = part 2 (vec_up_to most_imports «import») (λ is. record m { imports = is }) from_functions m

unfoldable pub from_types : Module → Grammar Module
from_types m = part 1 (vec_up_to most_types functype) (λ ts. record m { types = ts }) from_imports m

-- the magic bytes and the version
abbrev pub preamble : Grammar (Unit {0})
preamble = do
  this_byte Magic 0x00
  this_byte Magic 0x61
  this_byte Magic 0x73
  this_byte Magic 0x6d
  this_byte Version 0x01
  this_byte Version 0x00
  this_byte Version 0x00
  this_byte Version 0x00

unfoldable pub «module» : Grammar Module
«module» = preamble >> from_types empty_module
