use Rattle.std.proofs.Common.{◌≡◌, Some, refl, arith, rules}
use Rattle.wh_space_model.specs.declared.states.Page.TheVariants.{Swapped}
use Rattle.wh_space_model.specs.declared.states.Slot.TheVariants.{Taken}
use Rattle.wh_space_model.specs.{Space, page_at, sent_for}
use Rattle.wh_space_model.proofs.Putting.{is_page, there_of}
use Rattle.wh_space.specs.declared.memory.Memory.TheInside.{Inside}
use Rattle.wh_space.specs.Parts.{IsWell, space_of}
use Rattle.wh_space.proofs.Transiting.{table_within, tickets_few}
use Rattle.wh_space_model.proofs.Awaited.{is_sound_sent_for}
use Rattle.wh_space_model.proofs.Slotting.{slot_taken}
use Rattle.wh_space.proofs.Moving.{sent}
use Rattle.wh_space.proofs.memory.Memory.fetch_begin.Goals as goal

pub set-requires : goal.set-requires
set-requires c = there_of c.self.inside.slots.uses c.args.slot Taken (slot_taken (space_of c.self.inside) c.args.place c.args.page c.args.slot c.self.invariant.sound.slots (rw (← c.self.view_is) at c.requires.page))

pub put_page-requires-clause-there : goal.put_page-requires-clause-there
put_page-requires-clause-there c = (is_page (space_of c.self.inside).tables c.args.place c.args.page (Swapped c.args.slot) (rw (← c.self.view_is) at c.requires.page)).1

pub begin_coming-requires-clause-there : goal.begin_coming-requires-clause-there
begin_coming-requires-clause-there c = table_within c.self.inside c.args.place c.self.invariant.sound (is_page (space_of c.self.inside).tables c.args.place c.args.page (Swapped c.args.slot) (rw (← c.self.view_is) at c.requires.page)).0

pub begin_coming-requires-clause-few : goal.begin_coming-requires-clause-few
begin_coming-requires-clause-few c =
    tickets_few c.self.inside c.args.place c.self.invariant (omega (arith, c.len-slots.ensures)) (table_within c.self.inside c.args.place c.self.invariant.sound (is_page (space_of c.self.inside).tables c.args.place c.args.page (Swapped c.args.slot) (rw (← c.self.view_is) at c.requires.page)).0)

ended : (c : goal.After-begin_coming) → (space_of (record c.self.inside { occupant_entries = c.begin_coming.new.self; slots = c.set.new.self; pins = c.take_earmark.new.pins; tables = c.put_page.new.tables }) ≡ sent_for (space_of c.self.inside) c.args.place c.args.page c.in-Some.frame c.args.slot c.in-Some.ensures.some.0)
    × IsWell (record c.self.inside { occupant_entries = c.begin_coming.new.self; slots = c.set.new.self; pins = c.take_earmark.new.pins; tables = c.put_page.new.tables })
ended c =
    let a : Inside = c.self.inside in
    let s : Space = space_of a in
    let page : page_at s.tables c.args.place c.args.page ≡ Some (Swapped c.args.slot) = rw (← c.self.view_is) at c.requires.page in
    let is = slot_taken s c.args.place c.args.page c.args.slot c.self.invariant.sound.slots page in
    let less = table_within a c.args.place c.self.invariant.sound (is_page s.tables c.args.place c.args.page (Swapped c.args.slot) page).0 in
    let goes = c.in-Some.ensures.some in
    sent a (record a { occupant_entries = c.begin_coming.new.self; slots = c.set.new.self; pins = c.take_earmark.new.pins; tables = c.put_page.new.tables }) c.args.slot c.args.place c.args.page c.in-Some.frame goes.0 c.self.invariant
    (is_sound_sent_for s c.args.place c.args.page c.in-Some.frame c.args.slot goes.0 c.self.invariant.sound page goes.1) is less c.begin_coming.ensures c.set.ensures
    c.put_page.ensures.pages c.put_page.ensures.marks c.put_page.ensures.limits refl refl goes.2 refl

pub invariant_of-self : goal.invariant_of-self
invariant_of-self c = (ended c).1

pub returns : goal.returns
returns c = search (rules, ended)
