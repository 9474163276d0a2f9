use Rattle.std.proofs.Common.{◌≡◌, map, drop}
use Rattle.wh_syntax.specs.Shown.{instr_of}
use Rattle.wh_bodies.specs.CheckSteps.{run}
use Rattle.wh_bodies.specs.View.{view_around, state_of}
use Rattle.wh_bodies.proofs.body.check_all.Given as goal

abbrev pub invariant-loop-at : goal.invariant-loop-at
invariant-loop-at l = run (view_around l.around) l.at (map (instr_of l.targets) (drop l.at l.instrs)) (state_of l.checker) ≡ run (view_around l.around) 0 (map (instr_of l.targets) l.instrs) (state_of l.initial.checker)
