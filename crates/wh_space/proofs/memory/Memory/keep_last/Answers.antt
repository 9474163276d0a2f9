use Rattle.std.proofs.Common.{refl, ◌≡◌, ◌∙◌, ap, ℕ, Option, None, get_or, rules}
use Rattle.wh_space_model.specs.{sharers}
use Rattle.wh_space.specs.Parts.{space_of}
use Rattle.wh_space.specs.Slotting.{leaver_of, voids_leaver}
use Rattle.wh_space.proofs.Voids.{leaver_within}
use Rattle.wh_space.proofs.Owning.{IsOwned, IsSharer, can_keep_last, is_sharer, last_leaves, owned_by}
use Rattle.wh_space.proofs.Framing.{known}
use Rattle.wh_space.proofs.memory.Memory.keep_last.Goals as goal

pub drop_sharer-requires : goal.drop_sharer-requires
drop_sharer-requires c = (is_sharer (space_of c.self.inside) c.args.place c.args.number c.args.frame c.self.invariant.sound (rw (← c.self.view_is) at c.requires.shares)).entry

pub stand_alone-requires-clause-frame : goal.stand_alone-requires-clause-frame
stand_alone-requires-clause-frame c = known c.self.inside c.args.frame c.self.invariant (is_sharer (space_of c.self.inside) c.args.place c.args.number c.args.frame c.self.invariant.sound (rw (← c.self.view_is) at c.requires.shares)).taken.0

pub stand_alone-requires-clause-there : goal.stand_alone-requires-clause-there
stand_alone-requires-clause-there c = (is_sharer (space_of c.self.inside) c.args.place c.args.number c.args.frame c.self.invariant.sound (rw (← c.self.view_is) at c.requires.shares)).number

pub void_written-requires : goal.void_written-requires
void_written-requires c = leaver_within c.self.inside c.args.place c.leaver_at.result c.self.invariant.sound.slots c.leaver_at.ensures

sharer : (c : goal.After-stand_alone) → IsSharer (space_of c.self.inside) c.args.place c.args.number c.args.frame
sharer c = is_sharer (space_of c.self.inside) c.args.place c.args.number c.args.frame c.self.invariant.sound (rw (← c.self.view_is) at c.requires.shares)

last : (c : goal.After-stand_alone) → sharers (space_of c.self.inside) c.args.frame ≡ 1
last c = rw (← c.self.view_is) at c.requires.last

void : (c : goal.After-stand_alone) → c.void_written.new.slots ≡ voids_leaver (leaver_of (get_or c.self.inside.occupant_entries.items c.args.place None)) c.page-page.result c.self.inside.slots
void c = c.void_written.ensures ∙ ap (λ (o : Option ℕ). voids_leaver o c.page-page.result c.self.inside.slots) c.leaver_at.ensures

is_owned : (c : goal.After-stand_alone) → IsOwned c.self.inside (record c.self.inside { tables = c.stand_alone.new.tables; content = c.drop_sharer.new.self; slots = c.void_written.new.slots }) c.args.place c.args.number c.args.frame
is_owned c =
    let x = sharer c in
    owned_by c.self.inside (record c.self.inside { tables = c.stand_alone.new.tables; content = c.drop_sharer.new.self; slots = c.void_written.new.slots }) c.args.place c.args.number c.args.frame x.page c.page-page.result c.self.invariant refl (void c) refl
    c.stand_alone.ensures.pages c.stand_alone.ensures.marks c.stand_alone.ensures.limits x.there c.page-page.ensures
    (last_leaves (space_of c.self.inside) c.args.place c.args.frame x.page c.drop_sharer.new.self x.one (last c) c.drop_sharer.ensures)

pub invariant_of-self : goal.invariant_of-self
invariant_of-self c = (is_owned c).well

pub returns : goal.returns
returns c = search (rules, sharer, is_owned, can_keep_last, last)
