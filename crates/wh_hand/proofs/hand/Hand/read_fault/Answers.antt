use Rattle.std.proofs.Common.{arith, subst}
use Rattle.wh_hand.specs.HandReads.{HasSoManyBytes, RefusesReadHere}
use Rattle.wh_hand.specs.HandStates.{HandState}
use Rattle.wh_hand.specs.declared.reading.BytesError.TheVariants.{Outside}
use Rattle.wh_hand.proofs.ReadHere.{has_within, refused_outside}
use Rattle.wh_hand.proofs.hand.Hand.read_fault.Goals as goal

pub returns-then-saturating_add-size-clause-some : goal.returns-then-saturating_add-size-clause-some
returns-then-saturating_add-size-clause-some c =
    subst (λ (z : HandState). RefusesReadHere z.host c.args.id c.args.at c.args.count Outside) c.self.view_is
    (refused_outside c.self.inside.host c.args.id c.args.at c.args.count c.in-Some.field-0 c.size_at.result c.in-Some.ensures c.size_at.ensures
    (omega (arith, c.from-size.ensures, c.saturating_add.ensures, c.if-saturating_add-size.true)))

pub returns-clause-none : goal.returns-clause-none
returns-clause-none c =
    subst (λ (z : HandState). HasSoManyBytes z.host c.args.id c.args.at c.args.count) c.self.view_is
    (has_within c.self.inside.host c.args.id c.args.at c.args.count c.in-Some.field-0 c.size_at.result c.in-Some.ensures c.size_at.ensures
    (omega (arith, c.from-size.ensures, c.saturating_add.ensures, c.if-saturating_add-size.false)))
