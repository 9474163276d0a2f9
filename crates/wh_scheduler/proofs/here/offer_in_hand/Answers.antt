use Rattle.std.proofs.Common.{inl}
use Rattle.wh_scheduler.proofs.InHand.{moves_nothing, none_on}
use Rattle.wh_scheduler.proofs.OwnTurns.{only_by_offer, works_by_offer}
use Rattle.wh_scheduler.proofs.here.offer_in_hand.Goals as goal

pub returns-then-owner-eq18446744073709551615-clause-moves : goal.returns-then-owner-eq18446744073709551615-clause-moves
returns-then-owner-eq18446744073709551615-clause-moves g c = moves_nothing c.args.locked.now.host

pub returns-clause-works : goal.returns-clause-works
returns-clause-works g c = works_by_offer c.own_offer.result c.args.locked.now.books c.own_offer.new.self.books c.args.shares.now c.own_offer.new.shares c.own_offer.ensures.counted

pub returns-clause-only : goal.returns-clause-only
returns-clause-only g c = only_by_offer _ _ _ _ c.own_offer.result c.args.shares.now c.own_offer.new.shares c.own_offer.ensures.counted c.own_offer.ensures.none

pub returns-clause-none : goal.returns-clause-none
returns-clause-none g c = none_on _ _ c.own_offer.result (λ n. (inl n.0, n.1, n.2, n.3)) c.own_offer.ensures.none
