use Rattle.std.proofs.Common.{refl, subst, sym, ap, ◌∙◌, ◌≡◌, ◌+◌, length, length-set, slice_set, List, cond, nat_lt, ◌++◌, [], ◌∷◌, rules}
use Rattle.wh_space_model.specs.{Pool, FindsShared, MayBeListed, moved_to, Space, sharers, IsSound}
use Rattle.wh_space_model.specs.declared.states.Mark.{Mark}
use Rattle.wh_space_model.specs.declared.states.Mark.TheVariants.{Sharers}
use Rattle.wh_space_model.proofs.Listed.{moved_sound}
use Rattle.wh_space_model.proofs.Putting.{there_of}
use Rattle.wh_space.specs.Parts.{IsWell, space_of}
use Rattle.wh_space.specs.declared.memory.Memory.TheInside.{Inside}
use Rattle.wh_space.proofs.Unshared.{as_many, few_elsewhere, left_marks, on_shared, only_left}
use Rattle.wh_space.proofs.Merges.{remade_is}
use Rattle.wh_space.proofs.Wellness.{well}
use Rattle.wh_space.proofs.memory.Memory.move_to.Goals as goal

pub put_page-requires-clause-there : goal.put_page-requires-clause-there
put_page-requires-clause-there c = (on_shared (space_of c.self.inside) c.args.place c.args.page c.args.from.frame c.self.invariant.sound (rw (← c.self.view_is) at c.requires.may.0)).number

pub leave_frame-requires-clause-taken : goal.leave_frame-requires-clause-taken
leave_frame-requires-clause-taken c = (on_shared (space_of c.self.inside) c.args.place c.args.page c.args.from.frame c.self.invariant.sound (rw (← c.self.view_is) at c.requires.may.0)).taken

pub leave_frame-requires-clause-entry : goal.leave_frame-requires-clause-entry
leave_frame-requires-clause-entry c = (on_shared (space_of c.self.inside) c.args.place c.args.page c.args.from.frame c.self.invariant.sound (rw (← c.self.view_is) at c.requires.may.0)).entry

pub overflow_add-sharers : goal.overflow_add-sharers
overflow_add-sharers c = search (rules, few_elsewhere)

pub share-requires-clause-within : goal.share-requires-clause-within
share-requires-clause-within c = search (rules, there_of, length-set)

pub share-requires-clause-alone : goal.share-requires-clause-alone
share-requires-clause-alone c =
    let s : Space = space_of c.self.inside in
    let found : FindsShared s c.args.hash c.args.shared c.args.sharers = rw (← c.self.view_is) at c.requires.found in
    let may : MayBeListed s c.args.place c.args.page c.args.from.frame c.args.from.sharers = rw (← c.self.view_is) at c.requires.may in
    let on = on_shared s c.args.place c.args.page c.args.from.frame c.self.invariant.sound may.0 in
    rw (left_marks s c.args.from.frame c.args.from.sharers c.leave_frame.new.content c.self.invariant.sound on.entry may.1 c.leave_frame.ensures.marks) (only_left s c.args.from.frame c.args.shared c.args.hash c.args.sharers c.self.invariant.sound on.entry found)

moved : (c : goal.After-share)
    → (space_of (record c.self.inside { tables = c.put_page.new.tables; pool = c.leave_frame.new.pool; content = c.share.new.self }) ≡ moved_to (space_of c.self.inside) c.args.place c.args.page c.args.from.frame c.args.shared c.args.hash c.args.sharers)
    × IsWell (record c.self.inside { tables = c.put_page.new.tables; pool = c.leave_frame.new.pool; content = c.share.new.self })
moved c =
    let a = c.self.inside in
    let s : Space = space_of a in
    let b : Inside = record a { tables = c.put_page.new.tables; pool = c.leave_frame.new.pool; content = c.share.new.self } in
    let may : MayBeListed s c.args.place c.args.page c.args.from.frame c.args.from.sharers = rw (← c.self.view_is) at c.requires.may in
    let found : FindsShared s c.args.hash c.args.shared c.args.sharers = rw (← c.self.view_is) at c.requires.found in
    let on = on_shared s c.args.place c.args.page c.args.from.frame c.self.invariant.sound may.0 in
    let left = left_marks s c.args.from.frame c.args.from.sharers c.leave_frame.new.content c.self.invariant.sound on.entry may.1 c.leave_frame.ensures.marks in
    let marks = c.share.ensures ∙ ap (λ (m : List Mark). slice_set m c.args.shared (Sharers c.args.hash (c.args.sharers + 1))) left in
    let many = as_many s c.args.from.frame c.args.from.sharers c.self.invariant.sound may.1 in
    let pool : c.leave_frame.new.pool ≡ record a.pool { free = cond (nat_lt 1 (sharers s c.args.from.frame)) a.pool.free (a.pool.free ++ c.args.from.frame ∷ []) } =
    subst (λ z. c.leave_frame.new.pool ≡ record a.pool { free = cond (nat_lt 1 z) a.pool.free (a.pool.free ++ c.args.from.frame ∷ []) }) many c.leave_frame.ensures.pool in
    let is = remade_is a b _ _ _ _ refl refl refl refl c.put_page.ensures.pages c.put_page.ensures.marks pool marks in (
      is,
      well a b c.self.invariant refl c.put_page.ensures.limits (ap (λ (z : Pool). length z.frames) pool) refl
          (subst IsSound (sym is) (moved_sound s c.args.place c.args.page c.args.from.frame c.args.from.sharers c.args.shared c.args.hash c.args.sharers c.self.invariant.sound may found)),
    )

pub invariant_of-self : goal.invariant_of-self
invariant_of-self c = (moved c).1

pub returns : goal.returns
returns c = rw (← c.self.view_is) (moved c).0
