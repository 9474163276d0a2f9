use Rattle.std.proofs.Common.{List, ℕ, slice_set, ap, ◌∙◌}
use Rattle.std.proofs.lemmas.List.{map-set}
use Rattle.boxcar.specs.declared.tag.Tag.{Tag}
use Rattle.wh_space_model.specs.{Slots}
use Rattle.wh_swap.specs.SlotParts.{all_held, slots_of}
use Rattle.wh_swap.proofs.slots.Slots.write.Goals as goal

pub returns : goal.returns
returns c =
    let a = c.self.inside in
    let s : Slots = slots_of a in
    let held = map-set (λ (t : Tag). t.numbers) a.held.items c.args.slot c.what_is_held.result
    ∙ ap (λ (z : List ℕ). slice_set (all_held a.held.items) c.args.slot z) c.what_is_held.ensures in
    rw (← c.self.view_is) (ap (λ (h : List (List ℕ)). record s { held = h }) held)
