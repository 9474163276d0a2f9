use Rattle.std.proofs.Common.{inl, refl, sym, subst}
use Rattle.wh_hand.specs.Lining.{Lists}
use Rattle.wh_hand.proofs.Counted.{counts_three}
use Rattle.wh_hand.proofs.Goers.{keeps_then, lists_on, to_settle_first}
use Rattle.wh_hand.proofs.Steps.{first_is, nobody_in, none_is, on_three}
use Rattle.wh_hand.proofs.Together.{together_on, whole_both, whole_by}
use Rattle.wh_hand.proofs.going.advance.Goals as goal

pub returns-in_default-clause-none : goal.returns-in_default-clause-none
returns-in_default-clause-none c =
    nobody_in c.args.host.now c.args.line.now.items c.args.line.now.len c.in_default.ensures.cases.0 c.args.line.now.ok.0 c.requires.lists

pub returns-in_default-clause-lists : goal.returns-in_default-clause-lists
returns-in_default-clause-lists c =
    subst (Lists c.args.host.now) (sym (none_is c.args.line.now.items c.pop_front.new.self.items c.pop_front.result c.pop_front.ensures.items c.in_default.is)) c.requires.lists

pub settle-requires-clause-settles : goal.settle-requires-clause-settles
settle-requires-clause-settles c =
    let rest = c.pop_front.new.self.items in
    let id = c.in-Some.id in
    let first = first_is c.args.line.now.items rest c.pop_front.result id c.pop_front.ensures.items c.in-Some.is in
    to_settle_first c.args.host.now c.counted_turn-taken.new.host rest id (subst (Lists c.args.host.now) first c.requires.lists)
    (keeps_then c.args.host.now c.make_ready.new.host c.counted_turn-taken.new.host id c.make_ready.ensures.others c.counted_turn-taken.ensures.others)

pub returns-clause-runs : goal.returns-clause-runs
returns-clause-runs c =
    on_three c.args.host.now c.make_ready.new.host c.counted_turn-taken.new.host c.offer_next.new.host c.counted_turn-taken.result 1
    c.make_ready.ensures.runs c.counted_turn-taken.ensures.runs c.offer_next.ensures.moves.runs

pub returns-clause-together : goal.returns-clause-together
returns-clause-together c =
    together_on c.counted_turn-taken.new.host.space c.offer_next.new.host.space _ c.offer_next.ensures.moves.backing
    (together_on c.make_ready.new.host.space c.counted_turn-taken.new.host.space _ c.counted_turn-taken.ensures.backing c.make_ready.ensures.together)

pub returns-clause-lists : goal.returns-clause-lists
returns-clause-lists c =
    lists_on c.counted_turn-taken.new.host c.offer_next.new.host c.settle.new.line.items c.offer_next.ensures.moves.goes c.settle.ensures.lists

pub returns-clause-whole : goal.returns-clause-whole
returns-clause-whole c =
    let a = c.args.host.now.space in
    let b = c.make_ready.new.host.space in
    let d = c.counted_turn-taken.new.host.space in
    let e = c.offer_next.new.host.space in
    whole_both a d e (whole_both a b d c.make_ready.ensures.whole (whole_by b d c.counted_turn-taken.ensures.backing)) (whole_by d e c.offer_next.ensures.moves.backing)

pub counted_turn-taken-requires-clause-goes : goal.counted_turn-taken-requires-clause-goes
counted_turn-taken-requires-clause-goes c =
    let id = c.in-Some.id in
    let first = first_is c.args.line.now.items c.pop_front.new.self.items c.pop_front.result id c.pop_front.ensures.items c.in-Some.is in
    let lists = subst (Lists c.args.host.now) first c.requires.lists in
    (c.make_ready.ensures.others id).0 (lists.goes id (inl refl))

pub returns-clause-counts : goal.returns-clause-counts
returns-clause-counts c =
    counts_three c.args.host.now.counts c.make_ready.new.host.counts c.counted_turn-taken.new.host.counts c.offer_next.new.host.counts c.counted_turn-taken.result
    c.make_ready.ensures.counts c.counted_turn-taken.ensures.counts c.offer_next.ensures.counts
