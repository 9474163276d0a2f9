use Rattle.std.proofs.Common.{◌+◌, ◌<◌, ◌≤◌, length, length-append, length-set, sym, ap, subst, arith, ◌∷◌, []}
use Rattle.std.proofs.lemmas.Grind.{common_steps}
use Rattle.wh_overlay.specs.LaidPages.{IsAmong, OverlayPagesState}
use Rattle.wh_overlay.proofs.Marks.{marked_new, noted_new}
use Rattle.wh_overlay.proofs.overlay_pages.OverlayPages.add.Goals as goal

pub invariant_of-self : goal.invariant_of-self
invariant_of-self c =
    let had = c.self.invariant in
    let new = subst (λ (u : OverlayPagesState). ¬ (IsAmong u.pages c.args.number)) (sym c.self.view_is) c.requires.new in
    let within = subst (λ (u : OverlayPagesState). c.args.number < u.most) (sym c.self.view_is) c.requires.room.0 in (
      rw c.push_reserved.ensures.items (marked_new c.self.inside.pages.items c.self.inside.marks.items (record { number = c.args.number; bytes = c.args.bytes.now }) (c.len-place.result + 2)
          had.0 within new c.told-bytes (grind (arith, common_steps))),
      rw c.push_reserved.ensures.capacity had.1,
      had.2,
      (let room = subst (λ (u : OverlayPagesState). 1 ≤ u.room) (sym c.self.view_is) c.requires.room.1 in
          let long = length-append c.self.inside.pages.items (record { number = c.args.number; bytes = c.args.bytes.now } ∷ []) in
          omega (arith, room, ap length c.push_reserved.ensures.items, long)),
      noted_new c.self.inside.reads.items c.self.inside.marks.items c.args.number (c.len-place.result + 2) had.4 within (omega arith),
      (let same = length-set c.self.inside.marks.items c.args.number (c.len-place.result + 2) in let few = had.5 in omega (arith, same, few)),
    )
