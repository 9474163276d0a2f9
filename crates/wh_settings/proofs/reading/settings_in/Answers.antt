use Rattle.wh_settings.proofs.reading.settings_in.Goals as goal

pub returns-in_default-clause-err : goal.returns-in_default-clause-err
returns-in_default-clause-err c = λ e s h. c.in_default.ensures.none s.frames h.frames

pub returns-in_default-number_at-clause-err : goal.returns-in_default-number_at-clause-err
returns-in_default-number_at-clause-err c = λ e s h. c.in_default-number_at.ensures.none s.slots h.slots

pub returns-in_default-tax_at-clause-err : goal.returns-in_default-tax_at-clause-err
returns-in_default-tax_at-clause-err c = λ e s h. c.in_default-tax_at.ensures.none s.num s.den h.tax

pub returns-in_default-number_at-2-clause-err : goal.returns-in_default-number_at-2-clause-err
returns-in_default-number_at-2-clause-err c = λ e s h. c.in_default-number_at-2.ensures.none s.quantum h.quantum

pub returns-in_default-hash_at-clause-err : goal.returns-in_default-hash_at-clause-err
returns-in_default-hash_at-clause-err c = λ e s h. c.in_default-hash_at.ensures.none s.hash h.hash
