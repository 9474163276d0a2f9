use Rattle.std.specs.Prelude.{Some}
use Rattle.wh_threads.proofs.agreement.BlankAgreement.open.Given as goal

abbrev pub ghosts-part : goal.ghosts-part
ghosts-part g a = record { picked = Some (g.C.Change.after a.by.now g.V.AgreedValue.nothing) }
