use Rattle.std.proofs.Common.{◌≡◌, None, Some, slice_get, refl}
use Rattle.wh_space_model.specs.declared.states.Slot.TheVariants.{EvictVoid}
use Rattle.wh_space_model.specs.{settled, with_leaving, without_slot}
use Rattle.wh_space_model.proofs.Voided.{is_sound_evict_void}
use Rattle.wh_space.specs.declared.memory.Memory.TheInside.{Inside}
use Rattle.wh_space.specs.Parts.{IsWell, space_of}
use Rattle.wh_space.proofs.Moving.{ended_void, given, is_void, within_set}
use Rattle.wh_space.proofs.Transiting.{guest_within}
use Rattle.wh_space.proofs.memory.Memory.end_void_evict.Goals as goal

pub give-requires-clause-there : goal.give-requires-clause-there
give-requires-clause-there c = (is_void (space_of c.self.inside) c.args.slot c.args.place c.self.invariant.sound (rw (← c.self.view_is) at c.requires)).slot

pub give-requires-clause-taken : goal.give-requires-clause-taken
give-requires-clause-taken c = (is_void (space_of c.self.inside) c.args.slot c.args.place c.self.invariant.sound (rw (← c.self.view_is) at c.requires)).taken

pub end_leaving-requires : goal.end_leaving-requires
end_leaving-requires c =
    let void = is_void (space_of c.self.inside) c.args.slot c.args.place c.self.invariant.sound (rw (← c.self.view_is) at c.requires) in
    guest_within c.self.inside c.args.place void.occupant void.there

pub settle-requires : goal.settle-requires
settle-requires c =
    let void = is_void (space_of c.self.inside) c.args.slot c.args.place c.self.invariant.sound (rw (← c.self.view_is) at c.requires) in
    within_set c.self.inside.occupant_entries.items c.end_leaving.new.self.items c.args.place c.args.place _ c.end_leaving.ensures (guest_within c.self.inside c.args.place void.occupant void.there)

ended : (c : goal.After-settle) → (space_of (record c.self.inside { occupant_entries = c.settle.new.self; slots = c.give.new.self }) ≡ settled (with_leaving (without_slot (space_of c.self.inside) c.args.slot) c.args.place None) c.args.place)
    × IsWell (record c.self.inside { occupant_entries = c.settle.new.self; slots = c.give.new.self })
ended c =
    let a : Inside = c.self.inside in
    let is : slice_get a.slots.uses c.args.slot ≡ Some (EvictVoid c.args.place) = rw (← c.self.view_is) at c.requires in
    ended_void a (record a { occupant_entries = c.settle.new.self; slots = c.give.new.self }) c.end_leaving.new.self.items c.args.slot c.args.place c.self.invariant
    (is_sound_evict_void (space_of a) c.args.slot c.args.place c.self.invariant.sound is) is c.end_leaving.ensures c.settle.ensures
    (given a.slots c.give.new.self c.args.slot c.give.ensures.uses c.give.ensures.vacant c.give.ensures.held) refl refl refl refl refl

pub invariant_of-self : goal.invariant_of-self
invariant_of-self c = (ended c).1

pub returns : goal.returns
returns c = rw (← c.self.view_is) (ended c).0
