use Rattle.std.proofs.Common.{refl}
use Rattle.wh_host.proofs.joining.give_back.Goals as goal

pub returns-in_default-clause-runner : goal.returns-in_default-clause-runner
returns-in_default-clause-runner c = (c.args.runner.now.tenant, refl)

pub returns-clause-runner : goal.returns-clause-runner
returns-clause-runner c = (c.swap.new.y, refl)
