use Rattle.wh_space_model.specs.{Pool, FindsShared, HasHash, IsSound}
use Rattle.std.proofs.Common.{refl, subst, sym, ap, ◌∙◌, ◌+◌, length, length-set, slice_get, slice_set, List, rules}
use Rattle.wh_space_model.specs.declared.states.Mark.{Mark}
use Rattle.wh_space_model.specs.declared.states.Mark.TheVariants.{Sharers}
use Rattle.wh_space_model.proofs.Putting.{there_of}
use Rattle.wh_space.specs.Parts.{space_of}
use Rattle.wh_space.specs.declared.memory.Memory.TheInside.{Inside}
use Rattle.wh_space.proofs.Merges.{few_sharers, is_alone, joined_sound, none_but, remade_is}
use Rattle.wh_space.proofs.Wellness.{well}
use Rattle.wh_space.proofs.memory.Memory.join.Goals as goal

pub give-requires : goal.give-requires
give-requires c = (is_alone (space_of c.self.inside) c.args.place c.args.page c.args.frame c.self.invariant.sound (rw (← c.self.view_is) at c.requires.offered.0)).taken

pub forget_frame-requires : goal.forget_frame-requires
forget_frame-requires c = (is_alone (space_of c.self.inside) c.args.place c.args.page c.args.frame c.self.invariant.sound (rw (← c.self.view_is) at c.requires.offered.0)).entry

pub overflow_add-sharers : goal.overflow_add-sharers
overflow_add-sharers c = search (rules, few_sharers)

pub share-requires-clause-within : goal.share-requires-clause-within
share-requires-clause-within c = search (rules, there_of, length-set)

pub share-requires-clause-alone : goal.share-requires-clause-alone
share-requires-clause-alone c =
    let found : FindsShared (space_of c.self.inside) c.args.hash c.args.shared c.args.sharers = rw (← c.self.view_is) at c.requires.found in
    let has : HasHash (slice_get (space_of c.self.inside).marks c.args.shared) c.args.hash = subst (λ m. HasHash m c.args.hash) (sym found) refl in
    let within = (is_alone (space_of c.self.inside) c.args.place c.args.page c.args.frame c.self.invariant.sound (rw (← c.self.view_is) at c.requires.offered.0)).entry in
    rw c.forget_frame.ensures (none_but (space_of c.self.inside) c.args.frame c.args.shared c.args.hash c.self.invariant.sound within has)

pub invariant_of-self : goal.invariant_of-self
invariant_of-self c =
    let a = c.self.inside in
    let b : Inside = record a { tables = c.put_page.new.tables; pool = c.give.new.self; content = c.share.new.self } in
    let marks = c.share.ensures ∙ ap (λ (m : List Mark). slice_set m c.args.shared (Sharers c.args.hash (c.args.sharers + 1))) c.forget_frame.ensures in
    let is = remade_is a b _ _ _ _ refl refl refl refl c.put_page.ensures.pages c.put_page.ensures.marks c.give.ensures.gives marks in
    well a b c.self.invariant refl c.put_page.ensures.limits (ap (λ (z : Pool). length z.frames) c.give.ensures.gives) refl
    (subst IsSound (sym is)
    (joined_sound (space_of a) c.args.place c.args.page c.args.frame c.args.shared c.args.hash c.args.sharers c.self.invariant.sound
    (rw (← c.self.view_is) at c.requires.offered) (rw (← c.self.view_is) at c.requires.some) (rw (← c.self.view_is) at c.requires.same) (rw (← c.self.view_is) at c.requires.found)))
