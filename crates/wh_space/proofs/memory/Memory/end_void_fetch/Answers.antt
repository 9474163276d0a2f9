use Rattle.std.proofs.Common.{◌≡◌, Some, slice_get, refl, rules}
use Rattle.wh_space_model.specs.declared.states.Slot.TheVariants.{FetchVoid}
use Rattle.wh_space_model.specs.{settled, with_free, without_slot}
use Rattle.wh_space_model.proofs.Tally.{one_same}
use Rattle.wh_space.specs.declared.memory.Memory.TheInside.{Inside}
use Rattle.wh_space.specs.Parts.{IsWell, space_of}
use Rattle.wh_space.proofs.Transiting.{guest_within}
use Rattle.wh_space_model.proofs.Voided.{is_sound_fetch_void}
use Rattle.wh_space.proofs.Moving.{ended_void_fetch, fetched_into, given, is_void_fetch, within_set}
use Rattle.wh_space.proofs.memory.Memory.end_void_fetch.Goals as goal

pub give-requires-clause-there : goal.give-requires-clause-there
give-requires-clause-there c = (is_void_fetch (space_of c.self.inside) c.args.slot c.args.place c.args.frame c.self.invariant.sound (rw (← c.self.view_is) at c.requires)).slot

pub give-requires-clause-taken : goal.give-requires-clause-taken
give-requires-clause-taken c = (is_void_fetch (space_of c.self.inside) c.args.slot c.args.place c.args.frame c.self.invariant.sound (rw (← c.self.view_is) at c.requires)).taken

pub give-requires-2 : goal.give-requires-2
give-requires-2 c = fetched_into (space_of c.self.inside) c.args.slot c.args.frame (FetchVoid c.args.place c.args.frame) c.self.invariant.sound (rw (← c.self.view_is) at c.requires) (one_same c.args.frame c.args.frame refl)

pub end_coming-requires : goal.end_coming-requires
end_coming-requires c = search (rules, is_void_fetch, guest_within)

pub settle-requires : goal.settle-requires
settle-requires c = search (rules, is_void_fetch, within_set, guest_within)

ended : (c : goal.After-settle) → (space_of (record c.self.inside { occupant_entries = c.settle.new.self; slots = c.give.new.self; pool = c.give-2.new.self }) ≡ settled (with_free (without_slot (space_of c.self.inside) c.args.slot) c.args.frame) c.args.place)
    × IsWell (record c.self.inside { occupant_entries = c.settle.new.self; slots = c.give.new.self; pool = c.give-2.new.self })
ended c =
    let a : Inside = c.self.inside in
    let is : slice_get a.slots.uses c.args.slot ≡ Some (FetchVoid c.args.place c.args.frame) = rw (← c.self.view_is) at c.requires in
    ended_void_fetch a (record a { occupant_entries = c.settle.new.self; slots = c.give.new.self; pool = c.give-2.new.self }) c.end_coming.new.self.items c.args.slot c.args.place c.args.frame c.self.invariant
    (is_sound_fetch_void (space_of a) c.args.slot c.args.place c.args.frame c.self.invariant.sound is) is c.end_coming.ensures c.settle.ensures
    (given a.slots c.give.new.self c.args.slot c.give.ensures.uses c.give.ensures.vacant c.give.ensures.held) refl c.give-2.ensures.gives refl refl refl

pub invariant_of-self : goal.invariant_of-self
invariant_of-self c = (ended c).1

pub returns : goal.returns
returns c = rw (← c.self.view_is) (ended c).0
