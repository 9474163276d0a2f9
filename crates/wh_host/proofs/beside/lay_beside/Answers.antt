use Rattle.wh_space.specs.StepViews.{keeps_all}
use Rattle.wh_host.proofs.beside.lay_beside.Goals as goal

pub returns-then-charges-eq0-clause-keeps : goal.returns-then-charges-eq0-clause-keeps
returns-then-charges-eq0-clause-keeps c = keeps_all c.args.place c.args.memory.now
