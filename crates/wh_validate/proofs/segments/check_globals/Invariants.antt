use Rattle.std.proofs.Common.{ℕ, ◌<◌, get_or, map, take}
use Rattle.wh_syntax.specs.View.{view_global_type}
use Rattle.wh_syntax.specs.declared.module.Global.{Global}
use Rattle.wh_validate.specs.Parts.{IsGlobal}
use Rattle.wh_validate.proofs.segments.check_globals.Given as goal

abbrev pub invariant-loop-global : goal.invariant-loop-global
invariant-loop-global l = (k : ℕ) (d : Global) → k < l.global-index → IsGlobal (map view_global_type (take l.imported l.globals)) (get_or l.own k d)
