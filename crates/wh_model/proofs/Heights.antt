-- Heights: laws, and some counted by hand.
use Rattle.std.proofs.Common.{◌≡◌, refl, ℕ, ◌≤◌, [], ◌∷◌, Some, None, pos, arith}
use Rattle.wh_model.specs.declared.ValType.TheVariants.{I32}
use Rattle.wh_model.specs.declared.BinaryOp.TheVariants.{Add}
use Rattle.wh_model.specs.Format.{Code, nothing, plain, block, loop, if_then, if_else, unreachable, br, binary, drop_operand, i32_const}
use Rattle.wh_model.specs.Validity.{Context, under, greatest}

-- where a sequence begins counts
pub begins_within : (c : Context) (floor height : ℕ) (s : Code) → height ≤ greatest c floor height s
begins_within c floor height nothing = omega arith
begins_within c floor height (plain op rest) = omega arith
begins_within c floor height (block t body rest) = omega (arith, begins_within (under t c) height height body)
begins_within c floor height (loop t body rest) = omega (arith, begins_within (under None c) height height body)
begins_within c floor height (if_then t first rest) = omega arith
begins_within c floor height (if_else t first second rest) = omega arith

-- a function without parameters that gives one i32, and nothing else around
abbrev around : Context
around = record { types = []; funcs = []; tables = []; memories = []; globals = []; locals = []; labels = Some I32 ∷ []; result = Some I32 }

-- two operands, and their sum
pub sum_of_two : greatest around 0 0 (plain (i32_const (pos 1)) (plain (i32_const (pos 2)) (plain (binary I32 Add) nothing))) ≡ 2
sum_of_two = refl

-- behind unreachable nothing is there to be taken
pub dead_drops : greatest around 0 0 (plain unreachable (plain drop_operand (plain drop_operand (plain drop_operand nothing)))) ≡ 0
dead_drops = refl

-- what dead code gives is counted
pub dead_constants : greatest around 0 0 (plain unreachable (plain (i32_const (pos 1)) (plain (i32_const (pos 2)) (plain drop_operand nothing)))) ≡ 2
dead_constants = refl

-- a block begins where it stands, and its end gives its result whatever its body left
pub dead_block : greatest around 0 0 (plain (i32_const (pos 1)) (block (Some I32) (plain (br 1) nothing) (plain (binary I32 Add) nothing))) ≡ 2
dead_block = refl

-- both parts of an if begin below its condition
pub both_parts : greatest around 0 0 (plain (i32_const (pos 1)) (if_else (Some I32) (plain (i32_const (pos 2)) nothing) (plain (i32_const (pos 3)) nothing) nothing)) ≡ 1
both_parts = refl
