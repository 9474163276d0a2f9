use Rattle.std.proofs.Common.{sym, arith}
use Rattle.wh_journal.proofs.Parts.{present_is}
use Rattle.test_parts.proofs.journal.has_gone.Goals as goal

pub go_further-requires : goal.go_further-requires
go_further-requires c = (
  c.in-Some.call.now,
  _,
  present_is _ _ (sym c.in-Some.ensures),
  omega (arith, c.pieces.ensures),
  omega (arith, c.charges.ensures),
)
