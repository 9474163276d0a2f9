use Rattle.std.proofs.Common.{ap, ◌∙◌, rules}
use Rattle.wh_space_model.specs.{Space, active_of, charged_of}
use Rattle.wh_space.proofs.Charged.{active_now, charged_now, row_few}
use Rattle.wh_space.proofs.memory.Memory.charged_at.Goals as goal

pub returns-clause-charged : goal.returns-clause-charged
returns-clause-charged c = c.charged.ensures.is ∙ (charged_now c.self.inside c.args.place c.self.invariant ∙ ap (λ (z : Space). charged_of z c.args.place) c.self.view_is)

pub returns-clause-touched : goal.returns-clause-touched
returns-clause-touched c = c.active.ensures.is ∙ (active_now c.self.inside c.args.place c.self.invariant ∙ ap (λ (z : Space). active_of z c.args.place) c.self.view_is)

pub returns-clause-few : goal.returns-clause-few
returns-clause-few c = search (rules, row_few)
