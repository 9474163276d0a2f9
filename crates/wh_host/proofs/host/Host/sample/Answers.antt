use Rattle.std.proofs.Common.{IfNone, Option, Some, None}
use Rattle.wh_host.proofs.host.Host.sample.Goals as goal

if_none : {X : Type 0} {P Q : Type 0} (o : Option X) → (P → Q) → IfNone o P → IfNone o Q
if_none None so is = so is
if_none (Some x) so is = is

pub returns-clause-some : goal.returns-clause-some
returns-clause-some c = rw (← c.self.view_is) c.take.ensures.some

pub returns-clause-none : goal.returns-clause-none
returns-clause-none c = if_none c.take.result (λ none small there. rw (← c.self.view_is) none) c.take.ensures.none
