use Rattle.std.proofs.Common.{◌/◌, ◌+◌, inl, inr, subst, sym}
use Rattle.wh_space_model.specs.{Space}
use Rattle.wh_space.specs.Shedding.{ShedsNone}
use Rattle.wh_space.proofs.Besides.{page_of_step, shed_of}
use Rattle.wh_space.proofs.memory.Memory.shed_among.Goals as goal

pub returns-then-need : goal.returns-then-need
returns-then-need c =
    let s : Space = c.args.self.now in
    shed_of s c.args.place c.args.need (c.args.need.at / 4096 + 1) c.shed_for-then-need.result c.shed_for-then-need.ensures
    (λ p of other. elim (page_of_step c.args.need.at c.args.need.length p of) [
      | inl first ↦ subst (λ q. ShedsNone s c.args.place c.args.need q) (sym first) c.in_default.ensures
      | inr next ↦ absurd (other next)
    ])
