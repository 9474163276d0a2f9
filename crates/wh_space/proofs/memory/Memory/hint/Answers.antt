use Rattle.std.proofs.Common.{refl, subst, sym}
use Rattle.wh_space_model.specs.{IsSound}
use Rattle.wh_space_model.proofs.Offered.{hinted_sound}
use Rattle.wh_space.specs.Parts.{space_of}
use Rattle.wh_space.specs.declared.memory.Memory.TheInside.{Inside}
use Rattle.wh_space.proofs.Merges.{is_alone, remade_is}
use Rattle.wh_space.proofs.Wellness.{well}
use Rattle.wh_space.proofs.memory.Memory.hint.Goals as goal

pub set_hint-requires-clause-within : goal.set_hint-requires-clause-within
set_hint-requires-clause-within c =
    (is_alone (space_of c.self.inside) c.args.place c.args.page c.args.frame c.self.invariant.sound (rw (← c.self.view_is) at c.requires.offered.0)).entry

pub invariant_of-self : goal.invariant_of-self
invariant_of-self c =
    let a = c.self.inside in
    let s = space_of a in
    let b : Inside = record a { content = c.set_hint.new.self } in
    let is = remade_is a b s.tables s.touched s.pool _ refl refl refl refl refl refl refl c.set_hint.ensures in
    well a b c.self.invariant refl refl refl refl
    (subst IsSound (sym is) (hinted_sound s c.args.place c.args.page c.args.frame c.args.hash c.self.invariant.sound (rw (← c.self.view_is) at c.requires.offered) (rw (← c.self.view_is) at c.requires.none)))
