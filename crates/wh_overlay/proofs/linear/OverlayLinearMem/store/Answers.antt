use Rattle.std.proofs.Common.{◌≢◌, inl, inr, length, refl, ap, arith}
use Rattle.std.proofs.lemmas.Grind.{common_steps}
use Rattle.wh_overlay.specs.Over.{OverlayState, sees}
use Rattle.wh_overlay.proofs.linear.OverlayLinearMem.store.Goals as goal

pub returns-else-write-clause-stores : goal.returns-else-write-clause-stores
returns-else-write-clause-stores c =
    let some : length c.args.given.now ≢ 0 = grind (arith, common_steps) in (
      c.if-not-has.ensures.within,
      ap (λ (o : OverlayState). sees o) (c.if-write.ensures.left refl),
      refl,
      λ can. elim can [ inl none ↦ some none | inr on ↦ c.if-write.ensures.hand on.1 ],
    )
