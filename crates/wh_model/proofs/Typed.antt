-- Sequences with their types, and modules, worked out by hand from the rules of sections 3.3 and 3.4 of the standard: some
-- that are valid, and some that are not.
use Rattle.std.proofs.Common.{None, ◌≡◌, refl, ap, subst, ℕ, List, [], ◌∷◌, ◌++◌, length, pos, Some, arith}
use Rattle.wh_model.specs.declared.ValType.{ValType}
use Rattle.wh_model.specs.declared.ValType.TheVariants.{I32, I64}
use Rattle.wh_model.specs.declared.BinaryOp.TheVariants.{Add}
use Rattle.wh_model.specs.declared.ExternKind.TheVariants.{Func}
use Rattle.wh_model.specs.Format.{FuncType, Export, Body, Module, Code, nothing, plain, block, if_then, br, binary, local_get, drop_operand, i32_const}
use Rattle.wh_model.specs.Validity.Valid.{Valid}
use Rattle.wh_model.specs.Validity.{DifferentNames, Context, HasType, no_more, then_op, then_block, then_if}

-- a function of two i32 that gives one, and nothing else around
abbrev around : Context
around = record { types = []; funcs = []; tables = []; memories = []; globals = []; locals = I32 ∷ I32 ∷ []; labels = Some I32 ∷ []; result = Some I32 }

-- local.get 0, local.get 1, i32.add
pub sum : HasType around (plain (local_get 0) (plain (local_get 1) (plain (binary I32 Add) nothing))) [] (I32 ∷ [])
sum = then_op [] (I32 ∷ []) [] (I32, refl, refl, refl) (then_op [] (I32 ∷ []) (I32 ∷ []) (I32, refl, refl, refl) (then_op (I32 ∷ I32 ∷ []) (I32 ∷ []) [] (refl, refl) no_more))

-- br 0, i32.add, drop: behind br operands are of any form, and the sum takes two of them
pub behind_branch : HasType around (plain (i32_const (pos 7)) (plain (br 0) (plain (binary I32 Add) (plain drop_operand nothing)))) [] (I32 ∷ [])
behind_branch = then_op [] (I32 ∷ []) [] (refl, refl) (then_op (I32 ∷ []) (I32 ∷ I32 ∷ I32 ∷ []) [] (Some I32, [], refl, refl)
    (then_op (I32 ∷ I32 ∷ []) (I32 ∷ []) (I32 ∷ []) (refl, refl) (then_op (I32 ∷ []) [] (I32 ∷ []) (I32, refl, refl) no_more)))

-- a block keeps its hands off what is below it, and its label takes its result
pub block_above : HasType around (block (Some I32) (plain (i32_const (pos 7)) (plain (br 0) nothing)) (plain (binary I32 Add) nothing)) (I32 ∷ []) (I32 ∷ [])
block_above = then_block (then_op [] (I32 ∷ []) [] (refl, refl) (then_op (I32 ∷ []) (I32 ∷ []) [] (Some I32, [], refl, refl) no_more))
    (then_op (I32 ∷ I32 ∷ []) (I32 ∷ []) [] (refl, refl) no_more)

-- an if without else gives nothing
leaves_it : {c : Context} {ins outs : List ValType} → HasType c nothing ins outs → outs ≡ ins
leaves_it no_more = refl

pub if_gives_nothing : {first rest : Code} {ins outs : List ValType} → HasType around (if_then (Some I32) first rest) ins outs → ⊥
if_gives_nothing (then_if p n r) = omega (arith, ap length (leaves_it n))

-- two i64 are no operands of i32.add
abbrev width_above : List ValType → ℕ
width_above [] = 0
width_above (I32 ∷ ts) = 32
width_above (I64 ∷ ts) = 64

above : (a below : List ValType) → a ≡ I32 ∷ I32 ∷ [] → width_above (a ++ below) ≡ 32
above a below e = ap (λ (ts : List ValType). width_above (ts ++ below)) e

pub no_other_operands : {outs whole : List ValType} → HasType around (plain (binary I32 Add) nothing) whole outs → whole ≡ I64 ∷ I64 ∷ [] → ⊥
no_other_operands (then_op a b below h p) e = omega (arith, above a below h.0, ap width_above e)

-- the module of one exported function, the sum above
abbrev sum_type : FuncType
sum_type = record { params = I32 ∷ I32 ∷ []; results = I32 ∷ [] }

abbrev sum_body : Body
sum_body = record { locals = []; code = plain (local_get 0) (plain (local_get 1) (plain (binary I32 Add) nothing)) }

abbrev sums : Module
sums = record {
  types = sum_type ∷ [];
  imports = [];
  funcs = 0 ∷ [];
  tables = [];
  memories = [];
  globals = [];
  exports = record { name = 115 ∷ []; kind = Func; index = 0 } ∷ [];
  start = None;
  elements = [];
  bodies = sum_body ∷ [];
  segments = [];
}

abbrev around_sums : Context
around_sums = record { types = sum_type ∷ []; funcs = sum_type ∷ []; tables = []; memories = []; globals = []; locals = []; labels = []; result = None }

abbrev inside_sum : Context
inside_sum = record around_sums { locals = I32 ∷ I32 ∷ []; labels = Some I32 ∷ []; result = Some I32 }

typed_sum : HasType inside_sum sum_body.code [] (I32 ∷ [])
typed_sum = then_op [] (I32 ∷ []) [] (I32, refl, refl, refl) (then_op [] (I32 ∷ []) (I32 ∷ []) (I32, refl, refl, refl)
    (then_op (I32 ∷ I32 ∷ []) (I32 ∷ []) [] (refl, refl) no_more))

pub valid_sums : Valid sums
unfolding Valid
valid_sums = (
  around_sums,
  record {
    context = record { types = refl; funcs = (sum_type, [], refl, refl, refl); tables = refl; memories = refl; globals = refl; no_locals = (refl, refl, refl) };
    types = (omega arith, tt);
    bodies = (sum_body, [], refl, sum_type, refl, (Some I32, refl, typed_sum), refl);
    tables = tt;
    one_table = omega arith;
    memories = tt;
    one_memory = omega arith;
    globals = tt;
    elements = tt;
    segments = tt;
    start = tt;
    exports = ((sum_type, refl), tt);
    names = (tt, tt);
  },
)

-- a module with two exports of one name isn't valid
pub no_name_twice : (m : Module) {one other : Export} → m.exports ≡ one ∷ other ∷ [] → other.name ≡ one.name → Valid m → ⊥
unfolding Valid
no_name_twice m e same v = (subst DifferentNames e v.1.names).0.0 same
