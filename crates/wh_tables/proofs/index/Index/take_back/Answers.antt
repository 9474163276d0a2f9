use Rattle.std.proofs.Common.{◌<◌, length, sym, subst, arith, rules}
use Rattle.wh_tables.specs.Index.{Counted, IsIndexBut, counted_of}
use Rattle.wh_tables.proofs.Counting.{again, got_there, room_active, room_charged}
use Rattle.wh_tables.proofs.index.Index.take_back.Goals as goal

pub count-requires-clause-charged : goal.count-requires-clause-charged
count-requires-clause-charged c =
    let x : Counted = counted_of c.self.inside in
    let held = c.requires.index.0 in
    let index = subst (λ (z : Counted). IsIndexBut c.args.frame z held) (sym c.self.view_is) c.requires.index.1 in
    let frame = subst (λ (z : Counted). c.args.frame < length z.chains.ends) (sym c.self.view_is) c.requires.frame in
    room_charged x held c.args.frame index frame c.next.result (sym c.next.ensures)

pub count-requires-clause-active : goal.count-requires-clause-active
count-requires-clause-active c =
    let x : Counted = counted_of c.self.inside in
    let held = c.requires.index.0 in
    let index = subst (λ (z : Counted). IsIndexBut c.args.frame z held) (sym c.self.view_is) c.requires.index.1 in
    let frame = subst (λ (z : Counted). c.args.frame < length z.chains.ends) (sym c.self.view_is) c.requires.frame in
    let m = index.measured.touchers in
    let got = got_there x.touchers c.args.frame c.index-touchers.result.now c.index-touchers.ensures (omega arith) in
    room_active x held c.args.frame c.index-touchers.result.now index frame got c.next.result (sym c.next.ensures)

pub returns-clause-index : goal.returns-clause-index
returns-clause-index c held index0 = search (rules, got_there, again)
