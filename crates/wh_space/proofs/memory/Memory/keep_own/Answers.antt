use Rattle.std.proofs.Common.{refl, ◌≡◌, ◌∙◌, ap, ℕ, Option, Some, None, get_or, rules}
use Rattle.wh_space_model.specs.declared.states.Page.{Page}
use Rattle.wh_space_model.specs.{owns, page_at}
use Rattle.wh_space.specs.Parts.{space_of}
use Rattle.wh_space.specs.Slotting.{leaver_of, voids_leaver}
use Rattle.wh_space.proofs.Voids.{leaver_within}
use Rattle.wh_space.proofs.Owning.{IsOwned, can_keep, keeps_own, owned_by, page_there}
use Rattle.wh_space.proofs.Framing.{known_under, owner_frame}
use Rattle.wh_space.proofs.memory.Memory.keep_own.Goals as goal

pub void_written-requires : goal.void_written-requires
void_written-requires c = leaver_within c.self.inside c.args.place c.leaver_at.result c.self.invariant.sound.slots c.leaver_at.ensures

pub stand_alone-requires-clause-frame : goal.stand_alone-requires-clause-frame
stand_alone-requires-clause-frame c = search (rules, page_there, known_under, owner_frame)

there : (c : goal.After-stand_alone) → (x : Page) × (page_at (space_of c.self.inside).tables c.args.place c.args.number ≡ Some x) × (owns c.args.frame x ≡ 1)
there c = page_there (owns c.args.frame) (page_at (space_of c.self.inside).tables c.args.place c.args.number) (rw (← c.self.view_is) at c.requires)

void : (c : goal.After-stand_alone) → c.void_written.new.slots ≡ voids_leaver (leaver_of (get_or c.self.inside.occupant_entries.items c.args.place None)) c.page-page.result c.self.inside.slots
void c = c.void_written.ensures ∙ ap (λ (o : Option ℕ). voids_leaver o c.page-page.result c.self.inside.slots) c.leaver_at.ensures

is_owned : (c : goal.After-stand_alone) → IsOwned c.self.inside (record c.self.inside { tables = c.stand_alone.new.tables; slots = c.void_written.new.slots }) c.args.place c.args.number c.args.frame
is_owned c =
    let x = there c in
    owned_by c.self.inside (record c.self.inside { tables = c.stand_alone.new.tables; slots = c.void_written.new.slots }) c.args.place c.args.number c.args.frame x.0 c.page-page.result c.self.invariant refl (void c) refl
    c.stand_alone.ensures.pages c.stand_alone.ensures.marks c.stand_alone.ensures.limits x.1 c.page-page.ensures (keeps_own (space_of c.self.inside) c.args.place c.args.frame x.0 x.2)

pub invariant_of-self : goal.invariant_of-self
invariant_of-self c = (is_owned c).well

pub returns : goal.returns
returns c = search (rules, there, is_owned, can_keep)
