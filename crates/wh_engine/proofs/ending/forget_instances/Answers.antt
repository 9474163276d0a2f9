use Rattle.std.proofs.Common.{rules}
use Rattle.std.proofs.lemmas.Fn.{filter_same}
use Rattle.wh_engine.proofs.ending.forget_instances.Goals as goal

pub returns-then-has_some : goal.returns-then-has_some
returns-then-has_some c = filter_same _ _ _ (λ x b f' k. search rules) _ _ c.retain.ensures.filtered
