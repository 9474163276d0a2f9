use Rattle.std.proofs.Common.{◌∙◌, ◌*◌, inl, inr, subst, sym, arith}
use Rattle.wh_pages.specs.Seeking.{IsSought}
use Rattle.wh_pages.specs.Table.{PageTableState}
use Rattle.wh_pages.proofs.Seeking.{either, entry_of_sought, next_here, none_here}
use Rattle.wh_pages.proofs.table.PageTable.next_resident.Goals.{then-has_sought+else-is_some, else-has_sought}
use Rattle.wh_pages.proofs.table.PageTable.next_resident.Goals as goal

pub returns-then-is_some : goal.returns-then-is_some
returns-then-is_some c =
    next_here (IsSought c.args.self.now c.args.idle) c.args.from c.loop-leaf.leaf c.sought_in-found.result (sym c.is_some.ensures ∙ c.if-is_some.true) c.loop-leaf.invariant c.sought_in-found.ensures.some

pub loop-leaf-preserved : goal.loop-leaf-preserved
loop-leaf-preserved c q from below sought = elim (either q (256 * c.loop-leaf.leaf)) [
  | inl lower ↦ c.loop-leaf.invariant q from lower sought
  | inr more ↦ elim c.if-has_sought.branch [
    | then-has_sought+else-is_some w ↦ none_here w.sought_in-found.result (sym w.is_some.ensures ∙ w.if-is_some.false) w.sought_in-found.ensures.none q from more (omega (arith, below)) sought
    | else-has_sought w ↦
        (let here = entry_of_sought c.self.inside c.args.idle q (subst (λ (t : PageTableState). IsSought t c.args.idle q) (sym c.self.view_is) sought) in
        c.has_sought.ensures w.if-has_sought.false q here.entry more (omega (arith, below)) here.there here.sought)
  ]
]

pub returns : goal.returns
returns c q from sought =
    let here = entry_of_sought c.self.inside c.args.idle q (subst (λ (t : PageTableState). IsSought t c.args.idle q) (sym c.self.view_is) sought) in
    c.loop-leaf.invariant q from (omega (arith, here.within, c.loop-leaf-test.false, c.loop-leaf.auto.leaf-end, c.div_ceil-leaf-end.ensures)) sought
