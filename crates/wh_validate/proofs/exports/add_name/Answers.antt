use Rattle.std.proofs.Common.{rules, is_some, ap, sym, ◌∙◌}
use Rattle.wh_validate.specs.SeenNames.{has_name}
use Rattle.wh_validate.proofs.NameLemmas.{name_added}
use Rattle.wh_validate.proofs.exports.add_name.Goals as goal

pub returns-in-Ok-None-clause-new : goal.returns-in-Ok-None-clause-new
unfolding has_name
returns-in-Ok-None-clause-new c = sym (ap is_some c.in-Ok-None.ensures.old) ∙ ap is_some c.in-Ok-None.field-0-is

pub returns-in-Ok-None-clause-added : goal.returns-in-Ok-None-clause-added
returns-in-Ok-None-clause-added c = λ q. name_added c.args.name.now c.args.names.now c.insert.new.self _ c.in-Ok-None.ensures.updates q

pub returns-in-Ok-Some-clause-err : goal.returns-in-Ok-Some-clause-err
unfolding has_name
returns-in-Ok-Some-clause-err c = search rules
