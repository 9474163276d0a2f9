use Rattle.wh_space_model.specs.{Pool, IsSound, unpinned}
use Rattle.std.proofs.Common.{length, ap, ◌≡◌, refl, sym, subst}
use Rattle.wh_space_model.proofs.Reserved.{is_sound_unpinned}
use Rattle.wh_space.specs.declared.memory.Memory.TheInside.{Inside}
use Rattle.wh_space.specs.Parts.{space_of}
use Rattle.wh_space.proofs.Earmarked.{may_end_all}
use Rattle.wh_space.proofs.Wellness.{well}
use Rattle.wh_space.proofs.memory.Memory.unpin.Goals as goal

pub end_all_pins-requires-clause-once : goal.end_all_pins-requires-clause-once
end_all_pins-requires-clause-once c = (may_end_all (space_of c.self.inside) c.self.invariant.sound.frames).once

pub end_all_pins-requires-clause-there : goal.end_all_pins-requires-clause-there
end_all_pins-requires-clause-there c = (may_end_all (space_of c.self.inside) c.self.invariant.sound.frames).there

is_unpinned : (c : goal.After-end_all_pins) → space_of (record c.self.inside { pool = c.end_all_pins.new.pool; pins = c.end_all_pins.new.pins }) ≡ unpinned (space_of c.self.inside)
is_unpinned c = rw (c.end_all_pins.ensures.pins, c.end_all_pins.ensures.pool) refl

pub invariant_of-self : goal.invariant_of-self
invariant_of-self c =
    let a : Inside = c.self.inside in
    let b : Inside = record a { pool = c.end_all_pins.new.pool; pins = c.end_all_pins.new.pins } in
    well a b c.self.invariant refl refl (ap (λ (z : Pool). length z.frames) c.end_all_pins.ensures.pool) refl (subst IsSound (sym (is_unpinned c)) (is_sound_unpinned (space_of a) c.self.invariant.sound))

pub returns : goal.returns
returns c = rw (← c.self.view_is) (is_unpinned c)
