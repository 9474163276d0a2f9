use Rattle.std.proofs.Common.{◌≡◌, map, drop, ◌++◌}
use Rattle.wh_validate.proofs.indices.add_globals.Given as goal

-- what was put there, and what is to come, are all
abbrev pub invariant-loop-global : goal.invariant-loop-global
invariant-loop-global l = l.globals.items ++ map (λ g. g.global_type) (drop l.global-index l.own) ≡ l.fn.globals.items ++ map (λ g. g.global_type) l.own
