use Rattle.std.proofs.Common.{◌<◌, length, sym, subst, arith, rules}
use Rattle.wh_tables.specs.Index.{Counted, IsIndexOf, counted_of}
use Rattle.wh_tables.proofs.Counting.{aside, got_there, has_active, has_charged}
use Rattle.wh_tables.proofs.index.Index.set_aside.Goals as goal

pub uncount-requires-clause-charged : goal.uncount-requires-clause-charged
uncount-requires-clause-charged c =
    let x : Counted = counted_of c.self.inside in
    let held = c.requires.index.0 in
    let index = subst (λ (z : Counted). IsIndexOf z held) (sym c.self.view_is) c.requires.index.1 in
    let frame = subst (λ (z : Counted). c.args.frame < length z.chains.ends) (sym c.self.view_is) c.requires.frame in
    has_charged x held c.args.frame index frame c.next.result (sym c.next.ensures)

pub uncount-requires-clause-active : goal.uncount-requires-clause-active
uncount-requires-clause-active c =
    let x : Counted = counted_of c.self.inside in
    let held = c.requires.index.0 in
    let index = subst (λ (z : Counted). IsIndexOf z held) (sym c.self.view_is) c.requires.index.1 in
    let frame = subst (λ (z : Counted). c.args.frame < length z.chains.ends) (sym c.self.view_is) c.requires.frame in
    let m = index.measured.touchers in
    let got = got_there x.touchers c.args.frame c.index-touchers.result.now c.index-touchers.ensures (omega arith) in
    has_active x held c.args.frame c.index-touchers.result.now index frame got c.next.result (sym c.next.ensures)

pub returns-clause-index : goal.returns-clause-index
returns-clause-index c held index0 = search (rules, got_there, aside)
