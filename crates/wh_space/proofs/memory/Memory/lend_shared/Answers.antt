use Rattle.std.proofs.Common.{refl, subst, sym, ◌≡◌, ◌+◌, ◌<◌, ◌^◌, Some, arith, rules}
use Rattle.wh_content.specs.Marks.{HasRoomForOne}
use Rattle.wh_space_model.specs.declared.states.Mark.{Mark}
use Rattle.wh_space_model.specs.declared.states.Mark.TheVariants.{Plain, Hint, Sharers, Unlisted}
use Rattle.wh_space_model.specs.declared.states.Page.TheVariants.{Shared}
use Rattle.wh_space_model.specs.{Space, sharers, Names, page_at, shares}
use Rattle.wh_space_model.proofs.Broken.{entry_there}
use Rattle.wh_space_model.proofs.Forked.{lends_page}
use Rattle.wh_space_model.proofs.Putting.{get_or_is, get_pages, is_page, there_of}
use Rattle.wh_space_model.proofs.Tally.{one_same}
use Rattle.wh_space.specs.Parts.{space_of}
use Rattle.wh_space.specs.declared.memory.Memory.TheInside.{Inside}
use Rattle.wh_space.proofs.Framing.{known_under}
use Rattle.wh_space.proofs.Merges.{few_beside, remade_is}
use Rattle.wh_space.proofs.Wellness.{well}
use Rattle.wh_space.proofs.memory.Memory.lend_shared.Goals as goal

counts_one : (s : Space) (f : _) (m : Mark) → Names s f (Some m) → sharers s f + 1 < 2 ^ 32 → HasRoomForOne m
counts_one s f Plain names few = tt
counts_one s f (Hint hash i p) names few = tt
counts_one s f (Sharers hash n) names few = let is = names.0 in omega (arith, is, few)
counts_one s f (Unlisted n) names few = let is = names.0 in omega (arith, is, few)

pub add_sharer-requires-clause-within : goal.add_sharer-requires-clause-within
add_sharer-requires-clause-within c =
    let s : Space = space_of c.self.inside in
    let there : page_at s.tables c.args.from c.args.number ≡ Some (Shared c.args.frame) = rw (← c.self.view_is) at c.requires.shared in
    let some = get_pages (shares c.args.frame) s.tables c.args.from c.args.number (Shared c.args.frame) there in
    let one = one_same c.args.frame c.args.frame refl in
    let entry = entry_there s c.args.frame c.self.invariant.sound.frames (omega (arith, some, one)) in
    there_of s.marks c.args.frame entry.0 entry.1

pub add_sharer-requires-clause-few : goal.add_sharer-requires-clause-few
add_sharer-requires-clause-few c =
    let s : Space = space_of c.self.inside in
    let sound = c.self.invariant.sound in
    let there : page_at s.tables c.args.from c.args.number ≡ Some (Shared c.args.frame) = rw (← c.self.view_is) at c.requires.shared in
    let some = get_pages (shares c.args.frame) s.tables c.args.from c.args.number (Shared c.args.frame) there in
    let entry = entry_there s c.args.frame sound.frames (omega (arith, some, one_same c.args.frame c.args.frame refl)) in
    let few = few_beside s c.args.frame c.args.place c.args.number sound (rw (← c.self.view_is) at c.requires.few) (rw (← c.self.view_is) at c.requires.onto) in
    subst HasRoomForOne (sym (get_or_is s.marks c.args.frame entry.0 Plain entry.1)) (counts_one s c.args.frame entry.0 entry.2 few)

pub put_page-requires-clause-there : goal.put_page-requires-clause-there
put_page-requires-clause-there c = search (rules, is_page)

pub put_page-requires-clause-frame : goal.put_page-requires-clause-frame
put_page-requires-clause-frame c = known_under c.self.inside c.args.from c.args.number c.args.frame (Shared c.args.frame) c.self.invariant (rw (← c.self.view_is) at c.requires.shared) refl

pub invariant_of-self : goal.invariant_of-self
invariant_of-self c =
    let a = c.self.inside in
    let b : Inside = record a { tables = c.put_page.new.tables; content = c.add_sharer.new.self } in
    let is = remade_is a b _ _ _ _ refl refl refl refl c.put_page.ensures.pages c.put_page.ensures.marks refl c.add_sharer.ensures in
    well a b c.self.invariant refl c.put_page.ensures.limits refl refl
    (lends_page (space_of a) c.args.from c.args.place c.args.number (Shared c.args.frame) (space_of b) c.self.invariant.sound
    (rw (← c.self.view_is) at c.requires.shared) (rw (← c.self.view_is) at c.requires.onto) is)

pub returns : goal.returns
returns c = search rules
