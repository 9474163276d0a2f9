use Rattle.std.proofs.Common.{ℕ, ◌<◌, get_or}
use Rattle.wh_model.specs.Validity.{ValidType}
use Rattle.wh_syntax.specs.View.{view_type}
use Rattle.wh_syntax.specs.declared.module.FuncType.{FuncType}
use Rattle.wh_validate.proofs.types.check_types.Given as goal

abbrev pub invariant-loop-func_type : goal.invariant-loop-func_type
invariant-loop-func_type l = (k : ℕ) (d : FuncType) → k < l.func_type-index → ValidType (view_type (get_or l.types k d))
