use Rattle.std.proofs.Common.{refl, subst, sym, ap, ◌≡◌, length, cond, nat_lt, ◌++◌, [], ◌∷◌}
use Rattle.wh_space_model.specs.{Pool, MayBeListed, Space, sharers, IsSound}
use Rattle.wh_space.specs.Listing.{zeros_left}
use Rattle.wh_space.specs.Parts.{IsWell, space_of}
use Rattle.wh_space.specs.declared.memory.Memory.TheInside.{Inside}
use Rattle.wh_space.proofs.Unshared.{as_many, left_marks, on_shared, zeros_sound}
use Rattle.wh_space.proofs.Merges.{remade_is}
use Rattle.wh_space.proofs.Wellness.{well}
use Rattle.wh_space.proofs.memory.Memory.leave_zeros.Goals as goal

pub empty_page-requires : goal.empty_page-requires
empty_page-requires c = (on_shared (space_of c.self.inside) c.args.place c.args.page c.args.frame c.self.invariant.sound (rw (← c.self.view_is) at c.requires.0)).number

pub leave_frame-requires-clause-taken : goal.leave_frame-requires-clause-taken
leave_frame-requires-clause-taken c = (on_shared (space_of c.self.inside) c.args.place c.args.page c.args.frame c.self.invariant.sound (rw (← c.self.view_is) at c.requires.0)).taken

pub leave_frame-requires-clause-entry : goal.leave_frame-requires-clause-entry
leave_frame-requires-clause-entry c = (on_shared (space_of c.self.inside) c.args.place c.args.page c.args.frame c.self.invariant.sound (rw (← c.self.view_is) at c.requires.0)).entry

left : (c : goal.After-leave_frame)
    → (space_of (record c.self.inside { tables = c.empty_page.new.tables; pool = c.leave_frame.new.pool; content = c.leave_frame.new.content }) ≡ zeros_left (space_of c.self.inside) c.args.place c.args.page c.args.frame)
    × IsWell (record c.self.inside { tables = c.empty_page.new.tables; pool = c.leave_frame.new.pool; content = c.leave_frame.new.content })
left c =
    let a = c.self.inside in
    let s : Space = space_of a in
    let b : Inside = record a { tables = c.empty_page.new.tables; pool = c.leave_frame.new.pool; content = c.leave_frame.new.content } in
    let may : MayBeListed s c.args.place c.args.page c.args.frame c.args.sharers = rw (← c.self.view_is) at c.requires in
    let on = on_shared s c.args.place c.args.page c.args.frame c.self.invariant.sound may.0 in
    let marks = left_marks s c.args.frame c.args.sharers c.leave_frame.new.content c.self.invariant.sound on.entry may.1 c.leave_frame.ensures.marks in
    let many = as_many s c.args.frame c.args.sharers c.self.invariant.sound may.1 in
    let pool : c.leave_frame.new.pool ≡ record a.pool { free = cond (nat_lt 1 (sharers s c.args.frame)) a.pool.free (a.pool.free ++ c.args.frame ∷ []) } =
    subst (λ z. c.leave_frame.new.pool ≡ record a.pool { free = cond (nat_lt 1 z) a.pool.free (a.pool.free ++ c.args.frame ∷ []) }) many c.leave_frame.ensures.pool in
    let is = remade_is a b _ _ _ _ refl refl refl refl c.empty_page.ensures.pages c.empty_page.ensures.marks pool marks in (
      is,
      well a b c.self.invariant refl c.empty_page.ensures.limits (ap (λ (z : Pool). length z.frames) pool) refl
          (subst IsSound (sym is) (zeros_sound s c.args.place c.args.page c.args.frame c.args.sharers c.self.invariant.sound may)),
    )

pub invariant_of-self : goal.invariant_of-self
invariant_of-self c = (left c).1

pub returns : goal.returns
returns c = rw (← c.self.view_is) (left c).0
