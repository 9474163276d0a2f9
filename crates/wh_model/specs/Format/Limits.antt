-- The limits of this host that the decoder answers for (section 7.2 of the standard leaves them to implementations).
use Rattle.std.specs.Prelude.{ℕ, ◌+◌, ◌≤◌, length, max, Option, Some, None}
use Rattle.std.specs.List.{AllByRecursion}
use Rattle.wh_model.specs.Format.Syntax.{br_table, Code, nothing, plain, block, loop, if_then, if_else, Instr, single, expression, Body, Module}

-- bytes of a module
abbrev pub most_bytes : ℕ
most_bytes = 1048576

abbrev pub most_types : ℕ
most_types = 1024

-- parameters of one type
abbrev pub most_params : ℕ
most_params = 256

abbrev pub most_imports : ℕ
most_imports = 256

abbrev pub most_functions : ℕ
most_functions = 4096

abbrev pub most_globals : ℕ
most_globals = 1024

abbrev pub most_exports : ℕ
most_exports = 1024

abbrev pub most_elements : ℕ
most_elements = 256

abbrev pub most_segments : ℕ
most_segments = 1024

-- locals of one function beside its parameters
abbrev pub most_locals : ℕ
most_locals = 256

-- opcodes of one function, `else` and `end` included
abbrev pub most_instructions : ℕ
most_instructions = 65536

-- constructs inside one another; an expression itself is no level
abbrev pub most_nested : ℕ
most_nested = 256

-- labels of a br_table beside the default one
abbrev pub most_labels : ℕ
most_labels = 4096

-- how deep constructs are nested
abbrev pub depth : Code → ℕ
depth nothing = 0
depth (plain op rest) = depth rest
depth (block t body rest) = max (1 + depth body) (depth rest)
depth (loop t body rest) = max (1 + depth body) (depth rest)
depth (if_then t first rest) = max (1 + depth first) (depth rest)
depth (if_else t first second rest) = max (max (1 + depth first) (1 + depth second)) (depth rest)

-- the labels of an instruction are no more than they may be
abbrev pub SmallInstr : Instr → Type 0
SmallInstr (single (br_table labels last)) = length labels ≤ most_labels
SmallInstr _ = Unit {0}

-- the instructions of an expression, `count`, are no more than `most`, where there is a limit
abbrev pub FewInstructions : Option ℕ → ℕ → Type 0
FewInstructions (Some most) count = count ≤ most
FewInstructions None count = Unit {0}

pub record SmallCode (most : Option ℕ) (c : Code) : Type 0 where
  pub count : FewInstructions most (length (expression c))
  pub nesting : depth c ≤ most_nested
  pub labels : AllByRecursion SmallInstr (expression c)

pub record SmallBody (f : Body) : Type 0 where
  pub locals : length f.locals ≤ most_locals
  pub code : SmallCode (Some most_instructions) f.code

-- no limit of the decoder is passed in a module
pub record SmallModule (m : Module) : Type 0 where
  pub types : length m.types ≤ most_types
  pub params : AllByRecursion (λ t. length t.params ≤ most_params) m.types
  pub imports : length m.imports ≤ most_imports
  pub funcs : length m.funcs ≤ most_functions
  pub globals : length m.globals ≤ most_globals
  pub inits : AllByRecursion (λ g. SmallCode None g.init) m.globals
  pub exports : length m.exports ≤ most_exports
  pub elements : length m.elements ≤ most_elements
  pub offsets : AllByRecursion (λ e. SmallCode None e.offset) m.elements
  pub bodies : AllByRecursion SmallBody m.bodies
  pub segments : length m.segments ≤ most_segments
  pub places : AllByRecursion (λ d. SmallCode None d.offset) m.segments
