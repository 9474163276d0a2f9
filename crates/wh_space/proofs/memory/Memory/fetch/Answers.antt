use Rattle.std.proofs.Common.{◌≡◌, Some, [], length, rules, refl}
use Rattle.wh_space_model.specs.declared.states.Page.TheVariants.{Swapped}
use Rattle.wh_space_model.specs.{Fetches, kept, page_at}
use Rattle.wh_space_model.proofs.Putting.{is_page}
use Rattle.wh_space.specs.declared.memory.Memory.TheInside.{Inside}
use Rattle.wh_space.specs.Parts.{IsWell, space_of}
use Rattle.wh_space.specs.Pinning.{pins_of}
use Rattle.wh_space.proofs.Fetching.{fetched_now, lies_there}
use Rattle.wh_space.proofs.Moving.{given}
use Rattle.wh_space.proofs.memory.Memory.fetch.Goals as goal

pub give-requires-clause-there : goal.give-requires-clause-there
give-requires-clause-there c = (lies_there (space_of c.self.inside) c.args.place c.args.page c.args.slot c.self.invariant.sound (rw (← c.self.view_is) at c.requires.page)).slot

pub give-requires-clause-taken : goal.give-requires-clause-taken
give-requires-clause-taken c = (lies_there (space_of c.self.inside) c.args.place c.args.page c.args.slot c.self.invariant.sound (rw (← c.self.view_is) at c.requires.page)).away

pub put_page-requires-clause-frame : goal.put_page-requires-clause-frame
put_page-requires-clause-frame c = search rules

pub put_page-requires-clause-there : goal.put_page-requires-clause-there
put_page-requires-clause-there c = (is_page (space_of c.self.inside).tables c.args.place c.args.page (Swapped c.args.slot) (rw (← c.self.view_is) at c.requires.page)).1

ended : (c : goal.After-pin_beside)
    → Fetches (space_of c.self.inside) c.args.place c.args.page c.args.bytes.now (space_of (record c.self.inside { tables = c.put_page.new.tables; pool = c.set_frame.new.pool; slots = c.give.new.self; pins = c.pin_beside.new.pins }))
    × IsWell (record c.self.inside { tables = c.put_page.new.tables; pool = c.set_frame.new.pool; slots = c.give.new.self; pins = c.pin_beside.new.pins })
ended c =
    let a : Inside = c.self.inside in
    let b : Inside = record a { tables = c.put_page.new.tables; pool = c.set_frame.new.pool; slots = c.give.new.self; pins = c.pin_beside.new.pins } in
    let there : page_at (space_of a).tables c.args.place c.args.page ≡ Some (Swapped c.args.slot) = rw (← c.self.view_is) at c.requires.page in
    let none : kept (pins_of a.pins) ≡ [] = rw (← c.self.view_is) at c.requires.kept in
    let whole : length c.args.bytes.now ≡ 4096 = (search rules) in
    fetched_now a b c.args.place c.args.page c.args.slot c.in-Ok.frame c.args.bytes.now c.take.new.self c.self.invariant there whole none c.in-Ok.ensures.takes c.set_frame.ensures
    (given a.slots c.give.new.self c.args.slot c.give.ensures.uses c.give.ensures.vacant c.give.ensures.held) c.put_page.ensures.pages c.put_page.ensures.marks c.put_page.ensures.limits c.pin_beside.ensures refl refl refl

pub invariant_of-self : goal.invariant_of-self
invariant_of-self c = (ended c).1

pub returns : goal.returns
returns c = rw (← c.self.view_is) (ended c).0
