use Rattle.std.proofs.Common.{arith, length, refl, ◌≡◌, ◌≤◌, ◌∙◌, ap, ℕ, Option, None, get_or, rules}
use Rattle.wh_space_model.specs.{Space, sharers}
use Rattle.wh_space.specs.Parts.{space_of}
use Rattle.wh_space.specs.Pinning.{pins_of}
use Rattle.wh_space.specs.Slotting.{leaver_of, voids_leaver}
use Rattle.wh_space.proofs.Earmarked.{goes_frames, goes_other, goes_some, goes_taken}
use Rattle.wh_space.proofs.Voids.{leaver_within}
use Rattle.wh_space.proofs.Owning.{IsOwned, IsSharer, can_copy, cannot_copy, copy_leaves, is_sharer, owned_by}
use Rattle.wh_space.proofs.Framing.{known}
use Rattle.wh_space.proofs.memory.Memory.take_copy.Goals as goal

pub copy-requires-clause-from : goal.copy-requires-clause-from
copy-requires-clause-from c =
    let s : Space = space_of c.self.inside in
    let x = is_sharer s c.args.place c.args.number c.args.frame c.self.invariant.sound (rw (← c.self.view_is) at c.requires.shares) in
    goes_other s c.args.place c.in_ok-fresh.fresh c.args.frame c.take_frame.new.pool (pins_of c.take_frame.new.pins) x.taken c.in_ok-fresh.ensures.some

pub copy-requires-clause-to : goal.copy-requires-clause-to
copy-requires-clause-to c = goes_taken (space_of c.self.inside) c.args.place c.in_ok-fresh.fresh c.take_frame.new.pool (pins_of c.take_frame.new.pins) c.self.invariant.sound.frames c.in_ok-fresh.ensures.some

pub drop_sharer-requires : goal.drop_sharer-requires
drop_sharer-requires c = (is_sharer (space_of c.self.inside) c.args.place c.args.number c.args.frame c.self.invariant.sound (rw (← c.self.view_is) at c.requires.shares)).entry

pub page-page-requires : goal.page-page-requires
page-page-requires c = (is_sharer (space_of c.self.inside) c.args.place c.args.number c.args.frame c.self.invariant.sound (rw (← c.self.view_is) at c.requires.shares)).number

pub void_written-requires : goal.void_written-requires
void_written-requires c = leaver_within c.self.inside c.args.place c.leaver_at.result c.self.invariant.sound.slots c.leaver_at.ensures

pub stand_alone-requires-clause-frame : goal.stand_alone-requires-clause-frame
stand_alone-requires-clause-frame c =
    let goes = c.in_ok-fresh.ensures.some in
    let taken = goes_taken (space_of c.self.inside) c.args.place c.in_ok-fresh.fresh c.take_frame.new.pool (pins_of c.take_frame.new.pins) c.self.invariant.sound.frames goes in
    let long = ap length (goes_frames c.args.place c.in_ok-fresh.fresh c.self.inside.pool (pins_of c.self.inside.pins) c.take_frame.new.pool (pins_of c.take_frame.new.pins) goes) in
    let within = taken.0 in
    known c.self.inside c.in_ok-fresh.fresh c.self.invariant (omega arith)

pub stand_alone-requires-clause-there : goal.stand_alone-requires-clause-there
stand_alone-requires-clause-there c = (is_sharer (space_of c.self.inside) c.args.place c.args.number c.args.frame c.self.invariant.sound (rw (← c.self.view_is) at c.requires.shares)).number

sharer : (c : goal.After-stand_alone) → IsSharer (space_of c.self.inside) c.args.place c.args.number c.args.frame
sharer c = is_sharer (space_of c.self.inside) c.args.place c.args.number c.args.frame c.self.invariant.sound (rw (← c.self.view_is) at c.requires.shares)

several : (c : goal.After-stand_alone) → 2 ≤ sharers (space_of c.self.inside) c.args.frame
several c = rw (← c.self.view_is) at c.requires.several

void : (c : goal.After-stand_alone) → c.void_written.new.slots ≡ voids_leaver (leaver_of (get_or c.self.inside.occupant_entries.items c.args.place None)) c.page-page.result c.self.inside.slots
void c = c.void_written.ensures ∙ ap (λ (o : Option ℕ). voids_leaver o c.page-page.result c.self.inside.slots) c.leaver_at.ensures

is_owned : (c : goal.After-stand_alone) → IsOwned c.self.inside (record c.self.inside { tables = c.stand_alone.new.tables; pool = c.copy.new.self; content = c.drop_sharer.new.self; slots = c.void_written.new.slots; pins = c.take_frame.new.pins }) c.args.place c.args.number c.in_ok-fresh.fresh
is_owned c =
    let x = sharer c in
    owned_by c.self.inside (record c.self.inside { tables = c.stand_alone.new.tables; pool = c.copy.new.self; content = c.drop_sharer.new.self; slots = c.void_written.new.slots; pins = c.take_frame.new.pins }) c.args.place c.args.number c.in_ok-fresh.fresh x.page c.page-page.result c.self.invariant refl (void c) refl
    c.stand_alone.ensures.pages c.stand_alone.ensures.marks c.stand_alone.ensures.limits x.there c.page-page.ensures
    (copy_leaves (space_of c.self.inside) c.args.place c.args.frame c.in_ok-fresh.fresh x.page c.drop_sharer.new.self c.take_frame.new.pool c.copy.new.self (pins_of c.take_frame.new.pins) x.one (several c) c.drop_sharer.ensures c.in_ok-fresh.ensures.some c.copy.ensures)

pub invariant_of-self-2 : goal.invariant_of-self-2
invariant_of-self-2 c = (is_owned c).well

pub returns : goal.returns
returns c =
    let x = sharer c in
    let o = is_owned c in
    let some = goes_some (space_of c.self.inside) c.args.place c.in_ok-fresh.fresh c.take_frame.new.pool (pins_of c.take_frame.new.pins) c.in_ok-fresh.ensures.some in
    rw (← c.self.view_is) (can_copy (space_of c.self.inside) c.args.place c.args.number c.args.frame x.page c.self.invariant.sound x.there x.one (several c) some, o.breaks, o.page)

pub returns-in_err-fresh : goal.returns-in_err-fresh
returns-in_err-fresh c = search (rules, is_sharer, cannot_copy)
