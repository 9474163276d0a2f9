use Rattle.std.proofs.Common.{arith, length, ap, refl, ◌≡◌, Some}
use Rattle.wh_space_model.specs.declared.states.Page.TheVariants.{Untouched}
use Rattle.wh_space_model.specs.{zero_page, Space, page_at}
use Rattle.wh_space_model.proofs.Putting.{is_page}
use Rattle.wh_space.specs.Parts.{space_of}
use Rattle.wh_space.specs.Pinning.{pins_of}
use Rattle.wh_space.proofs.Earmarked.{goes_frames, goes_some, goes_taken, takes_frame}
use Rattle.wh_space.proofs.Owning.{IsOwned, can_take, owned_by}
use Rattle.wh_space.proofs.Framing.{known}
use Rattle.wh_space.proofs.memory.Memory.take_zeros.Goals as goal

pub clear_frame-requires : goal.clear_frame-requires
clear_frame-requires c = goes_taken (space_of c.self.inside) c.args.place c.in_ok-frame.frame c.take_frame.new.pool (pins_of c.take_frame.new.pins) c.self.invariant.sound.frames c.in_ok-frame.ensures.some

pub stand_alone-requires-clause-frame : goal.stand_alone-requires-clause-frame
stand_alone-requires-clause-frame c =
    let goes = c.in_ok-frame.ensures.some in
    let taken = goes_taken (space_of c.self.inside) c.args.place c.in_ok-frame.frame c.take_frame.new.pool (pins_of c.take_frame.new.pins) c.self.invariant.sound.frames goes in
    let long = ap length (goes_frames c.args.place c.in_ok-frame.frame c.self.inside.pool (pins_of c.self.inside.pins) c.take_frame.new.pool (pins_of c.take_frame.new.pins) goes) in
    let within = taken.0 in
    known c.self.inside c.in_ok-frame.frame c.self.invariant (omega arith)

pub stand_alone-requires-clause-there : goal.stand_alone-requires-clause-there
stand_alone-requires-clause-there c = (is_page (space_of c.self.inside).tables c.args.place c.args.number Untouched (rw (← c.self.view_is) at c.requires)).1

there : (c : goal.After-stand_alone) → page_at (space_of c.self.inside).tables c.args.place c.args.number ≡ Some Untouched
there c = rw (← c.self.view_is) at c.requires

is_owned : (c : goal.After-stand_alone) → IsOwned c.self.inside (record c.self.inside { tables = c.stand_alone.new.tables; pool = c.clear_frame.new.pool; pins = c.take_frame.new.pins }) c.args.place c.args.number c.in_ok-frame.frame
is_owned c =
    let s : Space = space_of c.self.inside in
    owned_by c.self.inside (record c.self.inside { tables = c.stand_alone.new.tables; pool = c.clear_frame.new.pool; pins = c.take_frame.new.pins }) c.args.place c.args.number c.in_ok-frame.frame Untouched Untouched c.self.invariant refl refl refl
    c.stand_alone.ensures.pages c.stand_alone.ensures.marks c.stand_alone.ensures.limits (there c) (there c)
    (takes_frame s c.args.place c.in_ok-frame.frame zero_page s.marks c.take_frame.new.pool c.clear_frame.new.pool (pins_of c.take_frame.new.pins) c.in_ok-frame.ensures.some c.clear_frame.ensures)

pub invariant_of-self-2 : goal.invariant_of-self-2
invariant_of-self-2 c = (is_owned c).well

pub returns : goal.returns
returns c =
    let o = is_owned c in
    let s : Space = space_of c.self.inside in
    let some = goes_some s c.args.place c.in_ok-frame.frame c.take_frame.new.pool (pins_of c.take_frame.new.pins) c.in_ok-frame.ensures.some in
    rw (← c.self.view_is) (can_take s c.args.place c.args.number c.self.invariant.sound (there c) some, o.breaks, o.page)
