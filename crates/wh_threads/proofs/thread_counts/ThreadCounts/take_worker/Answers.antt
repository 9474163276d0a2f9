use Rattle.std.proofs.Common.{rules, arith, ◌≤◌, ap, ◌∙◌, slice_get}
use Rattle.std.proofs.lemmas.List.{length-set}
use Rattle.wh_threads.specs.Counting.{ThreadCountsState}
use Rattle.wh_threads.proofs.Tallies.{turns_seat, charges_seat}
use Rattle.wh_threads.proofs.thread_counts.ThreadCounts.take_worker.Goals as goal

pub invariant_of-self : goal.invariant_of-self
invariant_of-self g c =
    let was = c.self.invariant in
    let lent = c.end-turns.ensures in
    let there = ap (λ (l : ThreadCountsState). slice_get l.tallies c.args.seat) c.self.view_is ∙ c.requires in
    let turns = turns_seat c.self.inside.tallies.items c.args.seat c.args.worker.from c.args.worker.tally there in
    let charges = charges_seat c.self.inside.tallies.items c.args.seat c.args.worker.from c.args.worker.tally there in
    let all_turns : c.merge.new.self.parts ≤ g.T.Ledger.parts = search rules in
    let all_charges : c.merge-2.new.self.parts ≤ g.C.Ledger.parts = search rules in
    record {
      seats = length-set _ _ _ ∙ was.seats;
      many_turn_parts = was.many_turn_parts;
      many_charge_parts = was.many_charge_parts;
      two_offer_parts = was.two_offer_parts;
      two_eviction_parts = was.two_eviction_parts;
      turn_parts = all_turns;
      charge_parts = all_charges;
      offer_parts = was.offer_parts;
      eviction_parts = was.eviction_parts;
      together = omega (arith, was.together, was.turn_parts, was.charge_parts, lent.turns.0, lent.charges.0, c.merge.ensures.parts, c.merge-2.ensures.parts);
      turns_are = rw lent.tally (omega (arith, was.turns_are, turns, lent.turns.1, c.merge.ensures.amount));
      charges_are = rw lent.tally (omega (arith, was.charges_are, charges, lent.charges.1, c.merge-2.ensures.amount));
      offers_are = was.offers_are;
      evictions_are = was.evictions_are;
      own_charges_few = was.own_charges_few;
    }
