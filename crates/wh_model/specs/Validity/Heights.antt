-- Limits that a validator sets beside the standard, as its section 7.2 allows: how many operands an instruction may
-- stand over, how many locals a function may have, and how large a table may be at least.
use Rattle.std.specs.Prelude.{◌≡◌, ℕ, ◌+◌, ◌-◌, ◌≤◌, max, List, [], ◌∷◌, length, Option, Some, None, slice_get, unwrap_or}
use Rattle.std.specs.List.{AllByRecursion}
use Rattle.wh_model.specs.declared.ValType.{ValType}
use Rattle.wh_model.specs.Format.Syntax.{Op, unreachable, br, br_if, br_table, return, call, call_indirect, drop_operand, select, local_get, local_set, local_tee, global_get, global_set, load, store, memory_size, memory_grow, i32_const, i64_const, test, comparison, unary, binary, conversion, Code, nothing, plain, block, loop, if_then, if_else, FuncType, Limits, Body, Module}
use Rattle.wh_model.specs.Validity.Typing.{Context, operand, under}
use Rattle.wh_model.specs.Validity.Valid.{ValidType, WithinBound, most_pages, IsContext}

-- ---- operand heights

-- how many operands [t?] has
abbrev pub operands : Option ValType → ℕ
operands t = length (operand t)

-- of the label there, if it is
abbrev pub carried : Context → ℕ → ℕ
carried c l = operands (unwrap_or (slice_get c.labels l) None)

abbrev pub no_type : FuncType
no_type = record { params = []; results = [] }

-- The operands that an instruction takes, and those that it gives. After unreachable, br, br_table and return the height is the
-- floor, whatever they take.
abbrev pub taken : Context → Op → ℕ
taken c (br_if l) = carried c l + 1
taken c (call x) = length (unwrap_or (slice_get c.funcs x) no_type).params
taken c (call_indirect y) = length (unwrap_or (slice_get c.types y) no_type).params + 1
taken c drop_operand = 1
taken c select = 3
taken c (local_set x) = 1
taken c (local_tee x) = 1
taken c (global_set x) = 1
taken c (load op align offset) = 1
taken c (store op align offset) = 2
taken c memory_grow = 1
taken c (test t op) = 1
taken c (comparison t op) = 2
taken c (unary t op) = 1
taken c (binary t op) = 2
taken c (conversion op) = 1
taken c _ = 0

abbrev pub given : Context → Op → ℕ
given c (br_if l) = carried c l
given c (call x) = length (unwrap_or (slice_get c.funcs x) no_type).results
given c (call_indirect y) = length (unwrap_or (slice_get c.types y) no_type).results
given c select = 1
given c (local_get x) = 1
given c (local_tee x) = 1
given c (global_get x) = 1
given c (load op align offset) = 1
given c memory_size = 1
given c memory_grow = 1
given c (i32_const n) = 1
given c (i64_const n) = 1
given c (test t op) = 1
given c (comparison t op) = 1
given c (unary t op) = 1
given c (binary t op) = 1
given c (conversion op) = 1
given c _ = 0

-- lowered by n, but never below the floor of the innermost label
abbrev pub lowered : ℕ → ℕ → ℕ → ℕ
lowered floor height n = max floor (height - n)

-- the height after an instruction without a body
abbrev pub height_behind : Context → ℕ → ℕ → Op → ℕ
height_behind c floor height unreachable = floor
height_behind c floor height (br l) = floor
height_behind c floor height (br_table ls l) = floor
height_behind c floor height return = floor
height_behind c floor height op = lowered floor height (taken c op) + given c op

-- The greatest height in a sequence that begins at that height, over that floor. No types are looked at, and dead code
-- is counted as any other.
abbrev pub greatest : Context → ℕ → ℕ → Code → ℕ
greatest c floor height nothing = height
greatest c floor height (plain op rest) = max height (greatest c floor (height_behind c floor height op) rest)
greatest c floor height (block t body rest) =
    max (greatest (under t c) height height body) (greatest c floor (height + operands t) rest)
greatest c floor height (loop t body rest) =
    max (greatest (under None c) height height body) (greatest c floor (height + operands t) rest)
greatest c floor height (if_then t first rest) = let low = lowered floor height 1 in
    max height (max (greatest (under t c) low low first) (greatest c floor (low + operands t) rest))
greatest c floor height (if_else t first second rest) = let low = lowered floor height 1 in
    max height
    (max (greatest (under t c) low low first)
    (max (greatest (under t c) low low second) (greatest c floor (low + operands t) rest)))

-- the greatest height in a function's body, whose label carries its result
abbrev pub body_height : Context → FuncType → Body → ℕ
body_height c f b = greatest (record c { labels = slice_get f.results 0 ∷ [] }) 0 0 b.code

-- ---- what fits

abbrev pub most_height : ℕ
most_height = 256

abbrev pub most_locals : ℕ
most_locals = 256

abbrev pub most_first_entries : ℕ
most_first_entries = 4096

-- few locals, parameters included, and few operands
abbrev pub FitsBody : Context → FuncType → Body → Type 0
FitsBody c f b = (length f.params + length b.locals ≤ most_locals) × (body_height c f b ≤ most_height)

-- each body with its function's type
abbrev pub FitBodies : Context → List ℕ → List Body → Type 0
FitBodies c [] bs = bs ≡ []
FitBodies c (x ∷ xs) bs =
    (b : Body) × (rest : List Body) × (bs ≡ b ∷ rest) × (f : FuncType) × (slice_get c.types x ≡ Some f) × FitsBody c f b
    × FitBodies c xs rest

-- a table's first entries are few, and no more than its last ones
abbrev pub FitsTable : Limits → Type 0
FitsTable l = (l.min ≤ most_first_entries) × ((last : ℕ) → l.max ≡ Some last → l.min ≤ last)

pub record FitsIn (m : Module) (c : Context) : Type 0 where
  pub context : IsContext m c
  pub types : AllByRecursion ValidType m.types
  pub bodies : FitBodies c m.funcs m.bodies
  pub tables : AllByRecursion FitsTable m.tables
  pub one_table : length m.tables ≤ 1
  pub memories : AllByRecursion (WithinBound most_pages) m.memories
  pub one_memory : length m.memories ≤ 1

unfoldable pub Fits : Module → Type 0
Fits m = (c : Context) × FitsIn m c
