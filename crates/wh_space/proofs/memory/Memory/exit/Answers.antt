use Rattle.std.proofs.Common.{◌≡◌, refl, ap, ◌∙◌, ℕ, Option, None, IfSome, ◌<◌, length, get_or, subst, sym}
use Rattle.wh_space_model.specs.{Slots}
use Rattle.wh_space.specs.declared.memory.Memory.TheInside.{Inside}
use Rattle.wh_space.specs.Parts.{space_of}
use Rattle.wh_space.specs.Pinning.{pins_of}
use Rattle.wh_space.specs.Slotting.{leaver_of, voids_slot}
use Rattle.wh_space.proofs.Earmarked.{ends_pins, may_end}
use Rattle.wh_space.proofs.LeavingMemory.{IsGone, is_gone, is_here, pages_can, slots_can}
use Rattle.wh_space.proofs.Voids.{leaver_within}
use Rattle.wh_tables.specs.Tables.{TablesState}
use Rattle.wh_space.specs.UnchangedTables.{fixed_in}
use Rattle.wh_space.proofs.memory.Memory.exit.Goals as goal

pub end_pins-requires-clause-once : goal.end_pins-requires-clause-once
end_pins-requires-clause-once c = (may_end (space_of c.self.inside) c.args.place c.self.invariant.sound.frames).once

pub end_pins-requires-clause-there : goal.end_pins-requires-clause-there
end_pins-requires-clause-there c = (may_end (space_of c.self.inside) c.args.place c.self.invariant.sound.frames).there

pub let_pages_go-requires-clause-frames : goal.let_pages_go-requires-clause-frames
let_pages_go-requires-clause-frames c =
    let here = is_here c.self.inside c.args.place c.args.self.now c.self.view_is c.self.invariant.sound c.requires in
    pages_can c.self.inside c.args.place c.end_pins.new.pool (pins_of c.end_pins.new.pins) c.self.invariant.sound here
    (ends_pins (space_of c.self.inside) c.args.place c.end_pins.new.pool (pins_of c.end_pins.new.pins) c.end_pins.ensures.pins c.end_pins.ensures.pool)

pub let_pages_go-requires-clause-slots : goal.let_pages_go-requires-clause-slots
let_pages_go-requires-clause-slots c =
    let here = is_here c.self.inside c.args.place c.args.self.now c.self.view_is c.self.invariant.sound c.requires in
    (slots_can c.self.inside c.args.place c.self.invariant.sound here).can

pub void_slot-requires : goal.void_slot-requires
void_slot-requires c =
    let a : Inside = c.self.inside in
    let here = is_here a c.args.place c.args.self.now c.self.view_is c.self.invariant.sound c.requires in
    let left = slots_can a c.args.place c.self.invariant.sound here in
    let within = leaver_within a c.args.place c.leaver_at.result c.self.invariant.sound.slots c.leaver_at.ensures in
    let long : length c.let_pages_go.new.slots.uses ≡ length a.slots.uses = ap (λ (z : Slots). length z.uses) c.let_pages_go.ensures.slots ∙ left.left.many in
    subst (λ (n : ℕ). IfSome c.leaver_at.result (λ k. k < n)) (sym long) within

pub clear-requires : goal.clear-requires
clear-requires c = (is_here c.self.inside c.args.place c.args.self.now c.self.view_is c.self.invariant.sound c.requires).row

pub let_occupant_go-requires : goal.let_occupant_go-requires
let_occupant_go-requires c = (is_here c.self.inside c.args.place c.args.self.now c.self.view_is c.self.invariant.sound c.requires).place

gone : (c : goal.After-let_occupant_go) → IsGone c.self.inside (record c.self.inside { occupant_entries = c.let_occupant_go.new.self; tables = c.clear.new.self; pool = c.let_pages_go.new.pool; content = c.let_pages_go.new.content; slots = c.void_slot.new.slots; pins = c.end_pins.new.pins }) c.args.place
gone c =
    let a : Inside = c.self.inside in
    let b : Inside = record a { occupant_entries = c.let_occupant_go.new.self; tables = c.clear.new.self; pool = c.let_pages_go.new.pool; content = c.let_pages_go.new.content; slots = c.void_slot.new.slots; pins = c.end_pins.new.pins } in
    let here = is_here a c.args.place c.args.self.now c.self.view_is c.self.invariant.sound c.requires in
    let ended = ends_pins (space_of a) c.args.place c.end_pins.new.pool (pins_of c.end_pins.new.pins) c.end_pins.ensures.pins c.end_pins.ensures.pool in
    let slots = c.void_slot.ensures
    ∙ (ap (λ (o : Option ℕ). voids_slot o c.let_pages_go.new.slots) c.leaver_at.ensures
    ∙ ap (λ (z : Slots). voids_slot (leaver_of (get_or a.occupant_entries.items c.args.place None)) z) c.let_pages_go.ensures.slots) in
    is_gone a b c.args.place c.end_pins.new.pool c.self.invariant here c.let_occupant_go.ensures (ap (λ (z : TablesState). z.pages) c.clear.ensures) (ap (λ (z : TablesState). z.marks) c.clear.ensures) (ap fixed_in c.clear.ensures) ended c.let_pages_go.ensures.frames slots refl

pub invariant_of-self : goal.invariant_of-self
invariant_of-self c = (gone c).well

pub returns : goal.returns
returns c = rw (← c.self.view_is) (gone c).exits
