use Rattle.wh_settings.proofs.numbers.number_at.Goals as goal

pub returns-in_default-clause-none : goal.returns-in_default-clause-none
returns-in_default-clause-none c = λ n h. c.in_default.ensures.none n h.has
