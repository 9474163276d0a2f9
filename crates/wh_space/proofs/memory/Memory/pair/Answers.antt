use Rattle.wh_space_model.specs.{Pool, FindsHint, Space, HasHash, IsSound, page_at, put}
use Rattle.std.proofs.Common.{refl, subst, sym, ap, ◌∙◌, ◌≡◌, Some, length, length-set, slice_get, slice_set, List, arith, rules}
use Rattle.wh_space_model.specs.declared.states.Mark.{Mark}
use Rattle.wh_space_model.specs.declared.states.Mark.TheVariants.{Sharers}
use Rattle.wh_space_model.specs.declared.states.Page.{Page}
use Rattle.wh_space_model.specs.declared.states.Page.TheVariants.{Private, Shared}
use Rattle.wh_space_model.proofs.Evicted.{row_length}
use Rattle.wh_space_model.proofs.Putting.{is_page, there_of}
use Rattle.wh_space.specs.Parts.{space_of}
use Rattle.wh_space.specs.declared.memory.Memory.TheInside.{Inside}
use Rattle.wh_space.proofs.Merges.{is_alone, none_but, paired_sound, remade_is}
use Rattle.wh_space.proofs.Wellness.{well}
use Rattle.wh_space.proofs.Framing.{known_under}
use Rattle.wh_space.specs.UnchangedTables.{Fixed}
use Rattle.wh_space.proofs.memory.Memory.pair.Goals as goal

pub give-requires : goal.give-requires
give-requires c = (is_alone (space_of c.self.inside) c.args.place c.args.page c.args.frame c.self.invariant.sound (rw (← c.self.view_is) at c.requires.offered.0)).taken

pub forget_frame-requires : goal.forget_frame-requires
forget_frame-requires c = (is_alone (space_of c.self.inside) c.args.place c.args.page c.args.frame c.self.invariant.sound (rw (← c.self.view_is) at c.requires.offered.0)).entry

pub share-requires-clause-within : goal.share-requires-clause-within
share-requires-clause-within c = search (rules, there_of, length-set)

pub share-requires-clause-alone : goal.share-requires-clause-alone
share-requires-clause-alone c =
    let found : FindsHint (space_of c.self.inside) c.args.hash c.args.shared c.args.other_place c.args.other_page = rw (← c.self.view_is) at c.requires.found in
    let has : HasHash (slice_get (space_of c.self.inside).marks c.args.shared) c.args.hash = subst (λ m. HasHash m c.args.hash) (sym found) refl in
    let within = (is_alone (space_of c.self.inside) c.args.place c.args.page c.args.frame c.self.invariant.sound (rw (← c.self.view_is) at c.requires.offered.0)).entry in
    rw c.forget_frame.ensures (none_but (space_of c.self.inside) c.args.frame c.args.shared c.args.hash c.self.invariant.sound within has)

pub put_page-requires-2-clause-frame : goal.put_page-requires-2-clause-frame
put_page-requires-2-clause-frame c =
    let s : Space = space_of c.self.inside in
    let there : page_at s.tables c.args.other_place c.args.other_page ≡ Some (Private c.args.shared) = rw (← c.self.view_is) at c.requires.hinted.0 in
    let frames = ap (λ (z : Fixed). z.frames) c.put_page.ensures.limits in
    let within = known_under c.self.inside c.args.other_place c.args.other_page c.args.shared (Private c.args.shared) c.self.invariant there refl in
    omega arith

pub put_page-requires-2-clause-there : goal.put_page-requires-2-clause-there
put_page-requires-2-clause-there c = search (rules, is_page, row_length)

pub invariant_of-self : goal.invariant_of-self
invariant_of-self c =
    let a = c.self.inside in
    let b : Inside = record a { tables = c.put_page-2.new.tables; pool = c.give.new.self; content = c.share.new.self } in
    let marks = c.share.ensures ∙ ap (λ (m : List Mark). slice_set m c.args.shared (Sharers c.args.hash 2)) c.forget_frame.ensures in
    let pages = c.put_page-2.ensures.pages ∙ ap (λ (t : List (List Page)). put t c.args.other_place c.args.other_page (Shared c.args.shared)) c.put_page.ensures.pages in
    let is = remade_is a b _ _ _ _ refl refl refl refl pages (c.put_page-2.ensures.marks ∙ c.put_page.ensures.marks) c.give.ensures.gives marks in
    well a b c.self.invariant refl (c.put_page-2.ensures.limits ∙ c.put_page.ensures.limits) (ap (λ (z : Pool). length z.frames) c.give.ensures.gives) refl
    (subst IsSound (sym is)
    (paired_sound (space_of a) c.args.place c.args.page c.args.frame c.args.shared c.args.hash c.args.other_place c.args.other_page c.self.invariant.sound
    (rw (← c.self.view_is) at c.requires.offered) (rw (← c.self.view_is) at c.requires.some) (rw (← c.self.view_is) at c.requires.same) c.requires.apart
    (rw (← c.self.view_is) at c.requires.found) (rw (← c.self.view_is) at c.requires.hinted)))
