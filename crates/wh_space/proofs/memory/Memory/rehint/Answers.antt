use Rattle.std.proofs.Common.{refl, subst, sym, ap, ◌∙◌, length, length-set, slice_set, List, arith}
use Rattle.wh_space_model.specs.{IsSound, FindsHint}
use Rattle.wh_space_model.specs.declared.states.Mark.{Mark}
use Rattle.wh_space_model.specs.declared.states.Mark.TheVariants.{Hint, Plain}
use Rattle.wh_space_model.proofs.Offered.{stale_sound}
use Rattle.wh_space.specs.Parts.{space_of}
use Rattle.wh_space.specs.declared.memory.Memory.TheInside.{Inside}
use Rattle.wh_space.proofs.Merges.{is_alone, none_stays, remade_is}
use Rattle.wh_space.proofs.Wellness.{well}
use Rattle.wh_space.proofs.memory.Memory.rehint.Goals as goal

pub set_hint-requires-clause-within : goal.set_hint-requires-clause-within
set_hint-requires-clause-within c =
    let within = (is_alone (space_of c.self.inside) c.args.place c.args.page c.args.frame c.self.invariant.sound (rw (← c.self.view_is) at c.requires.offered.0)).entry in
    let long = ap length c.forget_frame.ensures ∙ length-set c.self.inside.content c.args.stale Plain in
    omega arith

pub set_hint-requires-clause-alone : goal.set_hint-requires-clause-alone
set_hint-requires-clause-alone c =
    let found : FindsHint (space_of c.self.inside) c.args.hash c.args.stale c.requires.found.0 c.requires.found.1 = rw (← c.self.view_is) at c.requires.found.2 in
    rw c.forget_frame.ensures (none_stays (space_of c.self.inside) c.args.stale c.args.frame c.requires.found.0 c.requires.found.1 c.args.hash c.self.invariant.sound found)

pub invariant_of-self : goal.invariant_of-self
invariant_of-self c =
    let a = c.self.inside in
    let s = space_of a in
    let b : Inside = record a { content = c.set_hint.new.self } in
    let found : FindsHint s c.args.hash c.args.stale c.requires.found.0 c.requires.found.1 = rw (← c.self.view_is) at c.requires.found.2 in
    let marks = c.set_hint.ensures ∙ ap (λ (m : List Mark). slice_set m c.args.frame (Hint c.args.hash c.args.place c.args.page)) c.forget_frame.ensures in
    let is = remade_is a b s.tables s.touched s.pool _ refl refl refl refl refl refl refl marks in
    well a b c.self.invariant refl refl refl refl
    (subst IsSound (sym is)
    (stale_sound s c.args.place c.args.page c.args.frame c.args.stale c.requires.found.0 c.requires.found.1 c.args.hash c.self.invariant.sound (rw (← c.self.view_is) at c.requires.offered) found))
