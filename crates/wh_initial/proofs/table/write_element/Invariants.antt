use Rattle.std.proofs.Common.{◌≡◌, Some, map}
use Rattle.std.proofs.Math.Seq.{paste}
use Rattle.wh_initial.proofs.table.write_element.Given as goal

-- n of them are written
abbrev pub invariant-loop-at : goal.invariant-loop-at
invariant-loop-at l = l.table.items ≡ paste l.fn.table.items l.place (map (λ x. Some x) l.funcs) l.at
