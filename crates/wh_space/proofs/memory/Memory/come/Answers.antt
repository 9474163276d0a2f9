use Rattle.std.proofs.Common.{◌≡◌, Some, length, slice_get, refl, rules}
use Rattle.wh_space_model.specs.declared.states.Slot.TheVariants.{Fetching}
use Rattle.wh_space_model.specs.{has_come}
use Rattle.wh_space_model.proofs.Tally.{one_same}
use Rattle.wh_space_model.proofs.Putting.{is_page}
use Rattle.wh_space.specs.declared.memory.Memory.TheInside.{Inside}
use Rattle.wh_space.specs.Parts.{IsWell, space_of}
use Rattle.wh_space.proofs.Transiting.{table_within}
use Rattle.wh_space_model.proofs.Come.{is_sound_come}
use Rattle.wh_space.proofs.Moving.{came, fetched_into, given, is_awaited}
use Rattle.wh_space.proofs.Framing.{known}
use Rattle.wh_space.proofs.memory.Memory.come.Goals as goal

pub set_frame-requires : goal.set_frame-requires
set_frame-requires c = fetched_into (space_of c.self.inside) c.args.slot c.args.frame (Fetching c.args.place c.args.page c.args.frame) c.self.invariant.sound (rw (← c.self.view_is) at c.requires) (one_same c.args.frame c.args.frame refl)

pub give-requires-clause-there : goal.give-requires-clause-there
give-requires-clause-there c = (is_awaited (space_of c.self.inside) c.args.slot c.args.place c.args.page c.args.frame c.self.invariant.sound (rw (← c.self.view_is) at c.requires)).slot

pub give-requires-clause-taken : goal.give-requires-clause-taken
give-requires-clause-taken c = (is_awaited (space_of c.self.inside) c.args.slot c.args.place c.args.page c.args.frame c.self.invariant.sound (rw (← c.self.view_is) at c.requires)).taken

pub end_coming-requires : goal.end_coming-requires
end_coming-requires c =
    let out = is_awaited (space_of c.self.inside) c.args.slot c.args.place c.args.page c.args.frame c.self.invariant.sound (rw (← c.self.view_is) at c.requires) in
    table_within c.self.inside c.args.place c.self.invariant.sound out.row

pub put_page-requires-clause-frame : goal.put_page-requires-clause-frame
put_page-requires-clause-frame c = known c.self.inside c.args.frame c.self.invariant (fetched_into (space_of c.self.inside) c.args.slot c.args.frame (Fetching c.args.place c.args.page c.args.frame) c.self.invariant.sound (rw (← c.self.view_is) at c.requires) (one_same c.args.frame c.args.frame refl)).0

pub put_page-requires-clause-there : goal.put_page-requires-clause-there
put_page-requires-clause-there c = search (rules, is_awaited, is_page)

ended : (c : goal.After-put_page) → (space_of (record c.self.inside { occupant_entries = c.end_coming.new.self; slots = c.give.new.self; pool = c.set_frame.new.pool; tables = c.put_page.new.tables }) ≡ has_come (space_of c.self.inside) c.args.place c.args.page c.args.frame c.args.slot c.args.bytes.now)
    × IsWell (record c.self.inside { occupant_entries = c.end_coming.new.self; slots = c.give.new.self; pool = c.set_frame.new.pool; tables = c.put_page.new.tables })
ended c =
    let a : Inside = c.self.inside in
    let is : slice_get a.slots.uses c.args.slot ≡ Some (Fetching c.args.place c.args.page c.args.frame) = rw (← c.self.view_is) at c.requires in
    let whole : length c.args.bytes.now ≡ 4096 = (search rules) in
    came a (record a { occupant_entries = c.end_coming.new.self; slots = c.give.new.self; pool = c.set_frame.new.pool; tables = c.put_page.new.tables }) c.args.slot c.args.place c.args.page c.args.frame c.args.bytes.now c.self.invariant
    (is_sound_come (space_of a) c.args.place c.args.page c.args.frame c.args.slot c.args.bytes.now c.self.invariant.sound is whole) is c.end_coming.ensures
    (given a.slots c.give.new.self c.args.slot c.give.ensures.uses c.give.ensures.vacant c.give.ensures.held)
    c.put_page.ensures.pages c.put_page.ensures.marks c.put_page.ensures.limits c.set_frame.ensures refl refl refl

pub invariant_of-self : goal.invariant_of-self
invariant_of-self c = (ended c).1

pub returns : goal.returns
returns c = rw (← c.self.view_is) (ended c).0
