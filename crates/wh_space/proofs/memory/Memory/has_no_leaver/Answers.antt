use Rattle.std.proofs.Common.{◌∙◌, slice_get, sym, ap}
use Rattle.wh_space_model.specs.{Space}
use Rattle.wh_space.specs.Parts.{space_of}
use Rattle.wh_space.proofs.Choosing.{no_leaver, occupant_there}
use Rattle.wh_space.proofs.Transiting.{table_within}
use Rattle.wh_space.proofs.memory.Memory.has_no_leaver.Goals as goal

pub returns-in-Some : goal.returns-in-Some
returns-in-Some c =
    let a = c.self.inside in
    let less = table_within a c.args.place c.self.invariant.sound (rw (← c.self.view_is) at c.requires) in
    let there = occupant_there a.occupant_entries.items c.args.place c.at.result less c.at.ensures.entry in
    rw (← c.self.view_is) (no_leaver (space_of a) c.args.place _ c.is_none.result c.is_none.ensures (rw c.in-Some.is at there))

pub returns-in-None : goal.returns-in-None
returns-in-None c = λ (t, here, lacks).
    (let a = c.self.inside in
    let less = table_within a c.args.place c.self.invariant.sound (rw (← c.self.view_is) at c.requires) in
    let there = occupant_there a.occupant_entries.items c.args.place c.at.result less c.at.ensures.entry in
    let none = rw c.in-None.is at there in
    let is = ap (λ (s : Space). slice_get s.occupants c.args.place) c.self.view_is ∙ here in
    absurd (let e = sym none ∙ is in cc e))
