use Rattle.wh_settings.proofs.numbers.tax_at.Goals as goal

pub returns-in_default-clause-none : goal.returns-in_default-clause-none
returns-in_default-clause-none c = λ num den h. c.in_default.ensures.none num h.sets_num

pub returns-in_default-number_at-clause-none : goal.returns-in_default-number_at-clause-none
returns-in_default-number_at-clause-none c = λ num den h. c.in_default-number_at.ensures.none den h.sets_den
