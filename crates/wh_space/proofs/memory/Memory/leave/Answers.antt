use Rattle.std.proofs.Common.{◌≡◌, ◌∙◌, [], Some, get_or, slice_get, refl, sym, ap, rules}
use Rattle.wh_space_model.specs.declared.states.Slot.TheVariants.{Evicting}
use Rattle.wh_space_model.specs.{Space, frame_bytes, sharers, sent_off}
use Rattle.wh_space_model.proofs.Putting.{is_page}
use Rattle.wh_space.specs.declared.memory.Memory.TheInside.{Inside}
use Rattle.wh_space.specs.Parts.{IsWell, space_of}
use Rattle.wh_space.proofs.Moving.{is_left, left_now}
use Rattle.wh_space.proofs.Transiting.{guest_within}
use Rattle.wh_space.proofs.memory.Memory.leave.Goals as goal

pub sharers_of-sharers-requires : goal.sharers_of-sharers-requires
sharers_of-sharers-requires c =
    rw (← c.self.view_is) ((is_left (space_of c.self.inside) c.args.slot c.args.place c.args.page c.args.frame c.self.invariant.sound (rw (← c.self.view_is) at c.requires.out) (rw (← c.self.view_is) at c.requires.frame)).taken.0)

pub leave_frame-requires-clause-taken : goal.leave_frame-requires-clause-taken
leave_frame-requires-clause-taken c =
    (is_left (space_of c.self.inside) c.args.slot c.args.place c.args.page c.args.frame c.self.invariant.sound (rw (← c.self.view_is) at c.requires.out) (rw (← c.self.view_is) at c.requires.frame)).taken

pub leave_frame-requires-clause-entry : goal.leave_frame-requires-clause-entry
leave_frame-requires-clause-entry c =
    (is_left (space_of c.self.inside) c.args.slot c.args.place c.args.page c.args.frame c.self.invariant.sound (rw (← c.self.view_is) at c.requires.out) (rw (← c.self.view_is) at c.requires.frame)).entry

pub set-requires : goal.set-requires
set-requires c =
    (is_left (space_of c.self.inside) c.args.slot c.args.place c.args.page c.args.frame c.self.invariant.sound (rw (← c.self.view_is) at c.requires.out) (rw (← c.self.view_is) at c.requires.frame)).slot

pub end_leaving-requires : goal.end_leaving-requires
end_leaving-requires c =
    let x = is_left (space_of c.self.inside) c.args.slot c.args.place c.args.page c.args.frame c.self.invariant.sound (rw (← c.self.view_is) at c.requires.out) (rw (← c.self.view_is) at c.requires.frame) in
    guest_within c.self.inside c.args.place x.occupant x.there

pub swap_page-requires : goal.swap_page-requires
swap_page-requires c = search (rules, is_left, is_page)

ended : (c : goal.After-unpin_page)
    → (space_of (record c.self.inside { occupant_entries = c.end_leaving.new.self; slots = c.set.new.self; pool = c.leave_frame.new.pool; content = c.leave_frame.new.content; tables = c.swap_page.new.tables; pins = c.unpin_page.new.pins }) ≡ sent_off (space_of c.self.inside) c.args.place c.args.page c.args.frame c.args.slot)
    × IsWell (record c.self.inside { occupant_entries = c.end_leaving.new.self; slots = c.set.new.self; pool = c.leave_frame.new.pool; content = c.leave_frame.new.content; tables = c.swap_page.new.tables; pins = c.unpin_page.new.pins })
ended c =
    let a : Inside = c.self.inside in
    let s : Space = space_of a in
    let out : slice_get a.slots.uses c.args.slot ≡ Some (Evicting c.args.place c.args.page) = rw (← c.self.view_is) at c.requires.out in
    let held : get_or a.slots.held c.args.slot [] ≡ frame_bytes s c.args.frame = rw (← c.self.view_is) at c.requires.held in
    let x = is_left s c.args.slot c.args.place c.args.page c.args.frame c.self.invariant.sound out (rw (← c.self.view_is) at c.requires.frame) in
    let many : c.sharers_of-sharers.result ≡ sharers s c.args.frame = c.sharers_of-sharers.ensures ∙ ap (λ (z : Space). sharers z c.args.frame) (sym c.self.view_is) in
    left_now a (record a { occupant_entries = c.end_leaving.new.self; slots = c.set.new.self; pool = c.leave_frame.new.pool; content = c.leave_frame.new.content; tables = c.swap_page.new.tables; pins = c.unpin_page.new.pins }) c.args.slot c.args.place c.args.page c.args.frame x.page c.self.invariant
    out x.at_it x.on held x.entry c.end_leaving.ensures c.set.ensures c.swap_page.ensures.pages c.swap_page.ensures.marks c.swap_page.ensures.limits
    (rw (← many) c.leave_frame.ensures.marks) (rw (← many) c.leave_frame.ensures.pool) c.unpin_page.ensures refl

pub invariant_of-self : goal.invariant_of-self
invariant_of-self c = (ended c).1

pub returns : goal.returns
returns c = rw (← c.self.view_is) (ended c).0
