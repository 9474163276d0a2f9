use Rattle.std.proofs.Common.{◌≡◌, refl, arith, rules}
use Rattle.wh_space_model.specs.declared.states.Slot.TheVariants.{Evicting}
use Rattle.wh_space_model.specs.{CanLeave, Space, departing}
use Rattle.wh_space_model.proofs.Begun.{is_sound_begun}
use Rattle.wh_space_model.proofs.Putting.{get_or_is, is_page}
use Rattle.wh_space_model.proofs.Reading.{taken_under}
use Rattle.wh_space_model.proofs.Slotting.{vacant_there}
use Rattle.wh_space.specs.declared.memory.Memory.TheInside.{Inside}
use Rattle.wh_space.specs.Parts.{IsWell, space_of}
use Rattle.wh_space.proofs.Moving.{can_depart, departed_now, may_depart, page_stays, taken_slot}
use Rattle.wh_space.proofs.Transiting.{tickets_few}
use Rattle.wh_space.proofs.Framing.{known_under, leaving_frame}
use Rattle.wh_space.proofs.memory.Memory.evict_begin.Goals as goal

pub unreachable-requires : goal.unreachable-requires
unreachable-requires c = search (rules, can_depart, page_stays)

pub bytes-requires : goal.bytes-requires
bytes-requires c = taken_under (space_of c.self.inside) c.args.place c.args.page c.page.result c.in-Some.frame c.self.invariant.sound.frames c.page.ensures c.in-Some.ensures.0

pub put_page-requires-clause-frame : goal.put_page-requires-clause-frame
put_page-requires-clause-frame c = rw (leaving_frame c.page.result c.in-Some.now c.in-Some.ensures.1, c.in-Some.ensures.0) (known_under c.self.inside c.args.place c.args.page c.in-Some.frame c.page.result c.self.invariant c.page.ensures c.in-Some.ensures.0)

pub put_page-requires-clause-there : goal.put_page-requires-clause-there
put_page-requires-clause-there c = (is_page (space_of c.self.inside).tables c.args.place c.args.page c.page.result c.page.ensures).1

pub begin_leaving-requires-clause-there : goal.begin_leaving-requires-clause-there
begin_leaving-requires-clause-there c = (may_depart c.self.inside c.args.place c.args.page (rw (← c.self.view_is) at c.requires.can)).less

pub begin_leaving-requires-clause-few : goal.begin_leaving-requires-clause-few
begin_leaving-requires-clause-few c =
    tickets_few c.self.inside c.args.place c.self.invariant (omega (arith, c.len-slots.ensures)) (may_depart c.self.inside c.args.place c.args.page (rw (← c.self.view_is) at c.requires.can)).less

ended : (c : goal.After-begin_leaving) → (space_of (record c.self.inside { occupant_entries = c.begin_leaving.new.self; slots = c.take.new.self; tables = c.put_page.new.tables }) ≡ departing (space_of c.self.inside) c.args.place c.args.page c.in-Some-take.slot c.take.new.self.vacant c.in-Some.now)
    × IsWell (record c.self.inside { occupant_entries = c.begin_leaving.new.self; slots = c.take.new.self; tables = c.put_page.new.tables })
ended c =
    let a : Inside = c.self.inside in
    let s : Space = space_of a in
    let can : CanLeave s c.args.place c.args.page = rw (← c.self.view_is) at c.requires.can in
    let may = may_depart a c.args.place c.args.page can in
    let list = c.in-Some-take.ensures.vacant in
    let vacant = vacant_there s c.in-Some-take.slot c.take.new.self.vacant c.self.invariant.sound.slots list in
    departed_now a (record a { occupant_entries = c.begin_leaving.new.self; slots = c.take.new.self; tables = c.put_page.new.tables }) c.args.place c.args.page c.in-Some-take.slot c.take.new.self.vacant c.in-Some.now may.occupant c.self.invariant
    (is_sound_begun s c.args.place c.args.page c.in-Some-take.slot c.take.new.self.vacant c.page.result c.in-Some.now c.self.invariant.sound can c.page.ensures c.in-Some.ensures.1 list) vacant may.there c.begin_leaving.ensures
    (taken_slot a.slots c.take.new.self c.in-Some-take.slot (Evicting c.args.place c.args.page) c.in-Some-take.ensures.uses c.in-Some-take.ensures.held)
    c.put_page.ensures.pages c.put_page.ensures.marks c.put_page.ensures.limits refl refl refl refl

pub invariant_of-self : goal.invariant_of-self
invariant_of-self c = (ended c).1

pub returns : goal.returns
returns c = search (rules, get_or_is, ended)
