use Rattle.wh_space_model.specs.{Pool, IsSound}
use Rattle.std.proofs.Common.{length, ap, refl, subst, sym}
use Rattle.wh_space.specs.Parts.{space_of}
use Rattle.wh_space.specs.declared.memory.Memory.TheInside.{Inside}
use Rattle.wh_space.proofs.Merges.{emptied_sound, is_alone, remade_is}
use Rattle.wh_space.proofs.Wellness.{well}
use Rattle.wh_space.proofs.memory.Memory.empty.Goals as goal

pub give-requires : goal.give-requires
give-requires c = (is_alone (space_of c.self.inside) c.args.place c.args.page c.args.frame c.self.invariant.sound (rw (← c.self.view_is) at c.requires.0)).taken

pub forget_frame-requires : goal.forget_frame-requires
forget_frame-requires c = (is_alone (space_of c.self.inside) c.args.place c.args.page c.args.frame c.self.invariant.sound (rw (← c.self.view_is) at c.requires.0)).entry

pub invariant_of-self : goal.invariant_of-self
invariant_of-self c =
    let a = c.self.inside in
    let b : Inside = record a { tables = c.empty_page.new.tables; pool = c.give.new.self; content = c.forget_frame.new.self } in
    let is = remade_is a b _ _ _ _ refl refl refl refl c.empty_page.ensures.pages c.empty_page.ensures.marks c.give.ensures.gives c.forget_frame.ensures in
    well a b c.self.invariant refl c.empty_page.ensures.limits (ap (λ (z : Pool). length z.frames) c.give.ensures.gives) refl
    (subst IsSound (sym is) (emptied_sound (space_of a) c.args.place c.args.page c.args.frame c.self.invariant.sound (rw (← c.self.view_is) at c.requires)))
