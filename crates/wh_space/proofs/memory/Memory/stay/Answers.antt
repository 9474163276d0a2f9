use Rattle.std.proofs.Common.{◌≡◌, Some, slice_get, refl, subst, rules}
use Rattle.wh_space_model.specs.declared.states.Page.{Page}
use Rattle.wh_space_model.specs.declared.states.Slot.TheVariants.{Evicting}
use Rattle.wh_space_model.specs.{Space, as_before, not_sent}
use Rattle.wh_space_model.proofs.Returned.{is_sound_returned}
use Rattle.wh_space.specs.declared.memory.Memory.TheInside.{Inside}
use Rattle.wh_space.specs.Parts.{IsWell, space_of}
use Rattle.wh_space.specs.Transits.{back_again}
use Rattle.wh_space.proofs.Moving.{before_leaving, given, is_out, one_page, stayed}
use Rattle.wh_space.proofs.Framing.{back_frame, known_of}
use Rattle.wh_space.proofs.memory.Memory.stay.Goals as goal

pub put_page-requires-clause-frame : goal.put_page-requires-clause-frame
put_page-requires-clause-frame c = rw (c.as_it_was.ensures, back_frame c.page-was.result) (known_of c.self.inside c.args.place c.args.page c.page-was.result c.self.invariant c.page-was.ensures)

ended : (c : goal.After-put_page) → (space_of (record c.self.inside { occupant_entries = c.end_leaving.new.self; slots = c.give.new.self; tables = c.put_page.new.tables }) ≡ not_sent (space_of c.self.inside) c.args.place c.args.page c.args.slot (back_again c.page-was.result))
    × IsWell (record c.self.inside { occupant_entries = c.end_leaving.new.self; slots = c.give.new.self; tables = c.put_page.new.tables })
ended c =
    let a : Inside = c.self.inside in
    let s : Space = space_of a in
    let is : slice_get a.slots.uses c.args.slot ≡ Some (Evicting c.args.place c.args.page) = rw (← c.self.view_is) at c.requires in
    let out = is_out s c.args.slot c.args.place c.args.page c.self.invariant.sound is in
    let was = one_page s.tables c.args.place c.args.page out.page c.page-was.result out.at_it c.page-was.ensures in
    let back : as_before c.page-was.result (back_again c.page-was.result) = subst (λ (x : Page). as_before x (back_again x)) was (before_leaving out.page out.leaves) in
    stayed a (record a { occupant_entries = c.end_leaving.new.self; slots = c.give.new.self; tables = c.put_page.new.tables }) c.args.slot c.args.place c.args.page (back_again c.page-was.result) c.self.invariant
    (is_sound_returned s c.args.place c.args.page c.args.slot c.page-was.result (back_again c.page-was.result) c.self.invariant.sound is c.page-was.ensures back) is c.end_leaving.ensures
    (given a.slots c.give.new.self c.args.slot c.give.ensures.uses c.give.ensures.vacant c.give.ensures.held)
    (rw (← c.as_it_was.ensures) c.put_page.ensures.pages) c.put_page.ensures.marks c.put_page.ensures.limits refl refl refl refl

pub invariant_of-self : goal.invariant_of-self
invariant_of-self c = (ended c).1

pub returns : goal.returns
returns c = search (rules, ended)
