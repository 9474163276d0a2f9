use Rattle.std.specs.Prelude.{Some}
use Rattle.wh_threads.proofs.agreement.Agreement.settle.Given as goal

abbrev pub ghosts-change : goal.ghosts-change
ghosts-change g a = record { picked = Some (g.C.Change.after a.by.now a.first.now) }
