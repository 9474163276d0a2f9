use Rattle.std.proofs.Common.{◌≡◌, ◌∙◌, cond, ap, sym, subst}
use Rattle.std.specs.Global.{Vec}
use Rattle.std.specs.List.{All}
use Rattle.std.proofs.lemmas.Bool.{ltb-false}
use Rattle.wh_pages.specs.declared.entry.PageEntry.{PageEntry}
use Rattle.wh_pages.specs.Leaves.{IsSoughtEntry}
use Rattle.wh_pages.proofs.LeafCounts.{none_sought}
use Rattle.wh_pages.proofs.leaf.Leaf.has_sought.Goals.{then-idle, else-idle}
use Rattle.wh_pages.proofs.leaf.Leaf.has_sought.Goals as goal

pub returns : goal.returns
returns c none =
    let is : c.if-idle.others ≡ cond c.args.idle c.self.inside.actives 0 = elim c.if-idle.branch [
      | then-idle w ↦ w.others-is ∙ ap (λ b. cond b c.self.inside.actives 0) (sym w.if-idle.true)
      | else-idle w ↦ w.others-is ∙ ap (λ b. cond b c.self.inside.actives 0) (sym w.if-idle.false)
    ] in
    subst (λ (v : Vec PageEntry). All (λ e. ¬ IsSoughtEntry c.args.idle e) v.items) c.self.view_is
    (none_sought c.self.inside.entries.items c.args.idle c.self.inside.residents c.self.inside.actives c.if-idle.others c.self.invariant is (ltb-false c.if-idle.others c.self.inside.residents none))
