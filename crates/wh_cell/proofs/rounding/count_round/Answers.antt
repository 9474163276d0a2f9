use Rattle.std.proofs.Common.{◌≡◌, ◌∙◌, ℕ, ◌+◌, ◌-◌, Option, slice_set, get_or, take, refl, sym, ap, subst, arith}
use Rattle.std.proofs.lemmas.Option.{slice_get-get_or, slice_get_within}
use Rattle.wh_host.specs.declared.rounds.Runner.{Runner}
use Rattle.wh_host.specs.declared.rounds.SeriesEnd.{SeriesEnd}
use Rattle.wh_threads.specs.Counting.{RanTurns}
use Rattle.wh_threads.specs.declared.books.Books.{Books}
use Rattle.wh_threads.specs.Working.{ReceivedTurnsState}
use Rattle.wh_cell.specs.RoundCounts.{charges_by_turns, charges_of_round, turns_by, turns_of_round}
use Rattle.wh_cell.proofs.RoundTurns.{CountedSoFar, charges_next, counted_next, take_all_of, turns_next}
use Rattle.wh_cell.proofs.rounding.count_round.Goals as goal

counts : {T C O E : Type 0} (b : Books T C O E) (n k n2 k2 : ℕ) → n ≡ n2 → k ≡ k2 → (let r : Books T C O E = record b { turns = n; charges = k } in r) ≡ (let r : Books T C O E = record b { turns = n2; charges = k2 } in r)
counts b n k n2 k2 same same2 = rw (same, same2) refl

pub loop-at-init : goal.loop-at-init
loop-at-init g c =
    let b = c.args.books.now in
    let turns : b.turns ≡ b.turns + 0 = omega arith in
    let charges : b.charges ≡ b.charges + 0 = omega arith in
    record {
      orders = record { done = λ k y o less there at. absurd (omega (arith, less)); rest = λ k least. refl; few = omega arith };
      worker = record { from = refl; turns_are = omega arith; charges = omega arith };
      books = counts b b.turns b.charges (b.turns + 0) (b.charges + 0) turns charges;
    }

pub count_series-requires : goal.count_series-requires
count_series-requires g c =
    let now = c.loop-at in
    let y = get_or c.args.runners.now now.at c.index-runners-at.result in
    let there = slice_get-get_or c.args.runners.now now.at c.index-runners-at.result c.loop-at-test.true in
    let answer = c.answer.ensures ∙ ap (λ (z : Runner). z.answer) c.index-runners-at.is in
    let due = c.requires.due now.at y there in
    let within = slice_get_within c.args.orders.now now.at due.0 due.1 in
    let x = get_or now.orders now.at c.index-orders-at.result in
    let at = slice_get-get_or now.orders now.at c.index-orders-at.result (omega (arith, within, now.auto.orders)) in
    let orders = now.invariant.orders in
    let both = sym due.1 ∙ sym (orders.rest now.at (omega arith)) ∙ at in
    let same : due.0 ≡ x = cc both in
    let count = ap (λ (o : ReceivedTurnsState). o.count) same in
    let turns = ap turns_by answer in
    let charges = ap charges_by_turns answer in
    let few = orders.few in
    let small = due.3 in
    record {
      room = omega (arith, c.requires.room, few, now.invariant.worker.turns_are, turns, small, c.loop-at-test.true);
      due = (omega (arith, count, due.2, turns), omega (arith, small, turns));
      few = omega (arith, due.4, turns, charges);
    }

pub loop-at-preserved : goal.loop-at-preserved
loop-at-preserved g c =
    let now = c.loop-at in
    let y = get_or c.args.runners.now now.at c.index-runners-at.result in
    let there = slice_get-get_or c.args.runners.now now.at c.index-runners-at.result c.loop-at-test.true in
    let answer = c.answer.ensures ∙ ap (λ (z : Runner). z.answer) c.index-runners-at.is in
    let due = c.requires.due now.at y there in
    let within = slice_get_within c.args.orders.now now.at due.0 due.1 in
    let x = get_or now.orders now.at c.index-orders-at.result in
    let at = slice_get-get_or now.orders now.at c.index-orders-at.result (omega (arith, within, now.auto.orders)) in
    let next = counted_next c.args.runners.now c.args.orders.now now.orders now.at y x now.invariant.orders there at (omega (arith, due.3)) in
    let k = c.count_series in
    let order : k.new.order ≡ (let r : ReceivedTurnsState = record x { count = x.count - turns_by y.answer } in r) = k.ensures.order ∙ ap (λ (a : Option SeriesEnd). (let r : ReceivedTurnsState = record x { count = x.count - turns_by a } in r)) answer in
    let turns = turns_next c.args.runners.now now.at y there in
    let charges = charges_next c.args.runners.now now.at y there in
    let ran = now.invariant.worker in
    let more = k.ensures.worker in
    let of = ap turns_by answer in
    let of2 = ap charges_by_turns answer in
    let books = k.ensures.books in
    let was = now.invariant.books in
    record {
      orders = subst (λ o. CountedSoFar c.args.runners.now c.args.orders.now (slice_set now.orders now.at o) (now.at + 1)) (sym order) next;
      worker = record { from = more.from ∙ ran.from; turns_are = omega (arith, ran.turns_are, more.turns_are, turns, of); charges = omega (arith, ran.charges, more.charges, charges, of2) };
      books = books ∙ ap (λ (b : Books g.row.T.Denot g.row.C.Denot g.row.O.Denot g.row.E.Denot). (let r : Books g.row.T.Denot g.row.C.Denot g.row.O.Denot g.row.E.Denot = record b { turns = b.turns + turns_by c.answer.result; charges = b.charges + charges_by_turns c.answer.result } in r)) was
          ∙ counts c.args.books.now _ _ (c.args.books.now.turns + turns_of_round (take (now.at + 1) c.args.runners.now)) (c.args.books.now.charges + charges_of_round (take (now.at + 1) c.args.runners.now)) (omega (arith, turns, of)) (omega (arith, charges, of2));
    }

pub returns : goal.returns
returns g c =
    let now = c.loop-at in
    let end = c.loop-at-test.false in
    let all = take_all_of c.args.runners.now now.at (omega (arith, end)) in
    let i = now.invariant in
    let orders = i.orders in
    record {
      orders = record {
        run = λ k y o there at.
            (let less = slice_get_within c.args.runners.now k y there in
            let due = c.requires.due k y there in
            let both = sym due.1 ∙ at in
            let same : due.0 ≡ o = cc both in
            let count = ap (λ (x : ReceivedTurnsState). x.count) same in
            (omega (arith, count, due.2), orders.done k y o (omega (arith, less, end)) there at));
        rest = λ k least. orders.rest k (omega (arith, least, end));
      };
      worker = subst (λ ys. RanTurns c.args.worker.now (turns_of_round ys) (charges_of_round ys) now.worker) all i.worker;
      books = i.books ∙ counts c.args.books.now _ _ (c.args.books.now.turns + turns_of_round c.args.runners.now) (c.args.books.now.charges + charges_of_round c.args.runners.now) (ap (λ ys. c.args.books.now.turns + turns_of_round ys) all) (ap (λ ys. c.args.books.now.charges + charges_of_round ys) all);
    }
