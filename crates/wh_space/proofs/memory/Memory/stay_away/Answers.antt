use Rattle.std.proofs.Common.{◌≡◌, Some, slice_get, refl, rules}
use Rattle.wh_space_model.specs.declared.states.Slot.TheVariants.{Fetching}
use Rattle.wh_space_model.specs.{not_come}
use Rattle.wh_space_model.proofs.Tally.{one_same}
use Rattle.wh_space_model.proofs.Putting.{is_page}
use Rattle.wh_space.specs.declared.memory.Memory.TheInside.{Inside}
use Rattle.wh_space.specs.Parts.{IsWell, space_of}
use Rattle.wh_space.proofs.Transiting.{table_within}
use Rattle.wh_space_model.proofs.Come.{is_sound_not_come}
use Rattle.wh_space.proofs.Moving.{fetched_into, is_awaited, stayed_away}
use Rattle.wh_space.proofs.memory.Memory.stay_away.Goals as goal

pub give-requires : goal.give-requires
give-requires c = fetched_into (space_of c.self.inside) c.args.slot c.args.frame (Fetching c.args.place c.args.page c.args.frame) c.self.invariant.sound (rw (← c.self.view_is) at c.requires) (one_same c.args.frame c.args.frame refl)

pub set-requires : goal.set-requires
set-requires c = (is_awaited (space_of c.self.inside) c.args.slot c.args.place c.args.page c.args.frame c.self.invariant.sound (rw (← c.self.view_is) at c.requires)).slot

pub end_coming-requires : goal.end_coming-requires
end_coming-requires c =
    let out = is_awaited (space_of c.self.inside) c.args.slot c.args.place c.args.page c.args.frame c.self.invariant.sound (rw (← c.self.view_is) at c.requires) in
    table_within c.self.inside c.args.place c.self.invariant.sound out.row

pub put_page-requires-clause-there : goal.put_page-requires-clause-there
put_page-requires-clause-there c = search (rules, is_awaited, is_page)

ended : (c : goal.After-put_page) → (space_of (record c.self.inside { occupant_entries = c.end_coming.new.self; slots = c.set.new.self; pool = c.give.new.self; tables = c.put_page.new.tables }) ≡ not_come (space_of c.self.inside) c.args.place c.args.page c.args.frame c.args.slot)
    × IsWell (record c.self.inside { occupant_entries = c.end_coming.new.self; slots = c.set.new.self; pool = c.give.new.self; tables = c.put_page.new.tables })
ended c =
    let a : Inside = c.self.inside in
    let is : slice_get a.slots.uses c.args.slot ≡ Some (Fetching c.args.place c.args.page c.args.frame) = rw (← c.self.view_is) at c.requires in
    stayed_away a (record a { occupant_entries = c.end_coming.new.self; slots = c.set.new.self; pool = c.give.new.self; tables = c.put_page.new.tables }) c.args.slot c.args.place c.args.page c.args.frame c.self.invariant
    (is_sound_not_come (space_of a) c.args.place c.args.page c.args.frame c.args.slot c.self.invariant.sound is) is c.end_coming.ensures c.set.ensures
    c.put_page.ensures.pages c.put_page.ensures.marks c.put_page.ensures.limits c.give.ensures.gives refl refl refl

pub invariant_of-self : goal.invariant_of-self
invariant_of-self c = (ended c).1

pub returns : goal.returns
returns c = rw (← c.self.view_is) (ended c).0
