use Rattle.std.proofs.Common.{◌≡◌, ◌<◌, inl, inr, Some, subst, sym, ◌∙◌, arith}
use Rattle.wh_pages.specs.Seeking.{IsSought}
use Rattle.wh_pages.specs.Table.{PageTableState}
use Rattle.wh_pages.proofs.Seeking.{entry_of_sought, next_or, sought_of_entry}
use Rattle.wh_pages.proofs.table.PageTable.sought_in.Goals as goal

pub returns-then-is_sought-clause-some : goal.returns-then-is_sought-clause-some
returns-then-is_sought-clause-some c =
    let within : c.loop-at.at < c.self.inside.len = omega (arith, c.loop-at-test.true, c.min-end.ensures) in (
      (
        subst (λ (t : PageTableState). IsSought t c.args.idle c.loop-at.at) c.self.view_is
            (sought_of_entry c.self.inside c.args.idle c.loop-at.at c.get.result within c.get.ensures c.if-is_sought.ensures),
        omega (arith, c.loop-at.auto.at, c.max-first.ensures),
      ),
      λ q from leaf below. c.loop-at.invariant q (omega (arith, from, leaf, c.max-first.ensures)) below,
    )

pub loop-at-preserved : goal.loop-at-preserved
loop-at-preserved c q from below sought = elim (next_or q c.loop-at.at below) [
  | inl lower ↦ c.loop-at.invariant q from lower sought
  | inr same ↦
      (let here = entry_of_sought c.self.inside c.args.idle c.loop-at.at
      (subst (λ (t : PageTableState). IsSought t c.args.idle c.loop-at.at) (sym c.self.view_is) (subst (λ n. IsSought c.args.self.now c.args.idle n) same sought)) in
      let e : here.entry ≡ c.get.result = (let f : Some here.entry ≡ Some c.get.result = sym here.there ∙ c.get.ensures in cc f) in
      c.if-is_sought.ensures (rw (← e) here.sought))
]

pub returns-clause-none : goal.returns-clause-none
returns-clause-none c q from leaf below sought =
    let here = entry_of_sought c.self.inside c.args.idle q (subst (λ (t : PageTableState). IsSought t c.args.idle q) (sym c.self.view_is) sought) in
    c.loop-at.invariant q (omega (arith, from, leaf, c.max-first.ensures)) (omega (arith, below, here.within, c.loop-at-test.false, c.loop-at.auto.at-end, c.min-end.ensures)) sought
