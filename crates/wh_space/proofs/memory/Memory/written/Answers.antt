use Rattle.std.proofs.Common.{◌≡◌, [], cond, refl}
use Rattle.wh_space_model.specs.{IsEvicting, with_held, Space}
use Rattle.wh_space_model.proofs.Steady.{writes_soundly}
use Rattle.wh_space.specs.declared.memory.Memory.TheInside.{Inside}
use Rattle.wh_space.specs.Parts.{space_of}
use Rattle.wh_space.proofs.Wellness.{well_with}
use Rattle.wh_space.proofs.memory.Memory.written.Goals as goal

pub invariant_of-self : goal.invariant_of-self
invariant_of-self c =
    let a : Inside = c.self.inside in
    let s : Space = space_of a in
    let b : Inside = record a { slots = c.write.new.self } in
    let is : space_of b ≡ with_held s c.args.slot (cond c.args.wrote c.args.bytes.now []) = rw c.write.ensures refl in
    let evicting : IsEvicting s c.args.slot = rw (← c.self.view_is) at c.requires in
    well_with a b c.self.invariant refl refl refl (λ i. rw c.write.ensures refl) (writes_soundly s c.args.slot c.args.bytes.now c.args.wrote (space_of b) c.self.invariant.sound (evicting, is))
