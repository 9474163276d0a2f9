use Rattle.std.proofs.Common.{arith}
use Rattle.wh_journal.proofs.Parts.{present_or_none}
use Rattle.wh_journal.proofs.journal.Journal.is_idle.Goals as goal

pub returns : goal.returns
returns c =
    let a = c.self.inside in
    rw (c.len.ensures, ← c.self.view_is)
    (present_or_none a.calls.items a.first_open _ (omega (arith, a.calls.ok.0)) c.self.invariant)
