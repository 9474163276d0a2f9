use Rattle.std.proofs.Common.{refl, ap}
use Rattle.wh_space_model.specs.{Epochs}
use Rattle.wh_space_model.proofs.Steady.{epochs_soundly}
use Rattle.wh_space.specs.UnchangedTables.{fixed_in}
use Rattle.wh_space.specs.Parts.{space_of}
use Rattle.wh_space.proofs.Wellness.{well}
use Rattle.wh_space.proofs.memory.Memory.new_epoch.Goals as goal

epochs : (c : goal.After-clear_marks) → Epochs (space_of c.self.inside) (space_of (record c.self.inside { tables = c.clear_marks.new.self }))
epochs c = rw c.clear_marks.ensures refl

pub invariant_of-self : goal.invariant_of-self
invariant_of-self c =
    let a = c.self.inside in
    let b = record a { tables = c.clear_marks.new.self } in
    well a b c.self.invariant refl (ap fixed_in c.clear_marks.ensures) refl refl (epochs_soundly (space_of a) (space_of b) c.self.invariant.sound (epochs c))

pub returns : goal.returns
returns c = rw (← c.self.view_is) (epochs c)
