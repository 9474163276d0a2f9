use Rattle.std.proofs.Common.{false, refl, sym, ap, ◌∙◌, subst, rules}
use Rattle.wh_tables.specs.Index.{Counted, IsIndexBut, counted_of, with_mark}
use Rattle.wh_tables.proofs.Settling.{counts_touched, unmarked_there}
use Rattle.wh_tables.proofs.index.Index.unmark.Goals as goal

pub untouch-requires-clause-some : goal.untouch-requires-clause-some
untouch-requires-clause-some c = search (rules, counts_touched)

pub take_back-requires-clause-index : goal.take_back-requires-clause-index
take_back-requires-clause-index c =
    let held = c.requires.0 in
    let holds = c.requires.1 in
    let x : Counted = c.args.self.now in
    let y : Counted = counted_of c.self.inside in
    let aside = subst (λ (z : Counted). IsIndexBut c.args.frame z held) (sym c.self.view_is) (c.set_aside.ensures.index held holds.index) in
    let chains = ap (λ (z : Counted). z.chains) c.self.view_is ∙ c.set_aside.ensures.chains in
    let touchers = ap (λ (z : Counted). z.touchers) c.self.view_is ∙ c.set_aside.ensures.touchers in
    (with_mark held c.args.id false, unmarked_there x y (record { chains = y.chains; counts = y.counts; touchers = c.untouch.new.touchers.items }) held c.args.frame c.args.id holds aside chains touchers refl refl c.untouch.ensures)

pub returns-clause-index : goal.returns-clause-index
returns-clause-index c held holds =
    let x : Counted = c.args.self.now in
    let y : Counted = counted_of c.self.inside in
    let aside = subst (λ (z : Counted). IsIndexBut c.args.frame z held) (sym c.self.view_is) (c.set_aside.ensures.index held holds.index) in
    let chains = ap (λ (z : Counted). z.chains) c.self.view_is ∙ c.set_aside.ensures.chains in
    let touchers = ap (λ (z : Counted). z.touchers) c.self.view_is ∙ c.set_aside.ensures.touchers in
    c.take_back.ensures.index (with_mark held c.args.id false) (unmarked_there x y (record { chains = y.chains; counts = y.counts; touchers = c.untouch.new.touchers.items }) held c.args.frame c.args.id holds aside chains touchers refl refl c.untouch.ensures)
