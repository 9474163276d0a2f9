use Rattle.std.proofs.Common.{◌<◌, length, refl, sym, ap, ◌∙◌, subst, rules}
use Rattle.wh_tables.specs.Index.{Counted, IsIndexBut, counted_of, with_page}
use Rattle.wh_tables.proofs.Settling.{come_frame, room_touched}
use Rattle.wh_tables.proofs.index.Index.come.Goals as goal

pub touch-requires-clause-few : goal.touch-requires-clause-few
touch-requires-clause-few c = search (rules, room_touched)

pub take_back-requires-clause-index : goal.take_back-requires-clause-index
take_back-requires-clause-index c =
    let held = c.requires.held.0 in
    let was = c.requires.held.1 in
    let page = c.requires.held.2 in
    let holds = c.requires.held.3 in
    let on = c.requires.held.4 in
    let x : Counted = c.args.self.now in
    let y : Counted = counted_of c.self.inside in
    let aside = subst (λ (z : Counted). IsIndexBut c.args.frame z held) (sym c.self.view_is) (c.set_aside.ensures.index held holds.index) in
    let chains = ap (λ (z : Counted). z.chains) c.self.view_is ∙ c.set_aside.ensures.chains in
    let frame : c.args.frame < length y.chains.ends = rw chains c.requires.within.frame in
    let touchers = ap (λ (z : Counted). z.touchers) c.self.view_is ∙ c.set_aside.ensures.touchers in (
      with_page held c.args.id page,
      come_frame x y (record { chains = c.put_on.new.self; counts = y.counts; touchers = c.touch.new.touchers.items }) held c.args.frame c.args.id was page c.args.touched holds on aside frame
          (c.put_on.ensures.in_order held.pages was page aside.order holds.there holds.nowhere on) c.put_on.ensures.large refl c.touch.ensures,
    )

pub returns-clause-index : goal.returns-clause-index
returns-clause-index c held was page holds on =
    let x : Counted = c.args.self.now in
    let y : Counted = counted_of c.self.inside in
    let aside = subst (λ (z : Counted). IsIndexBut c.args.frame z held) (sym c.self.view_is) (c.set_aside.ensures.index held holds.index) in
    let chains = ap (λ (z : Counted). z.chains) c.self.view_is ∙ c.set_aside.ensures.chains in
    let frame : c.args.frame < length y.chains.ends = rw chains c.requires.within.frame in
    let touchers = ap (λ (z : Counted). z.touchers) c.self.view_is ∙ c.set_aside.ensures.touchers in
    c.take_back.ensures.index (with_page held c.args.id page) (come_frame x y (record { chains = c.put_on.new.self; counts = y.counts; touchers = c.touch.new.touchers.items }) held c.args.frame c.args.id was page c.args.touched holds on aside frame
    (c.put_on.ensures.in_order held.pages was page aside.order holds.there holds.nowhere on) c.put_on.ensures.large refl c.touch.ensures)
