use Rattle.std.proofs.Common.{rules}
use Rattle.wh_host.proofs.BesideTurns.{may_run, ran_beside}
use Rattle.wh_host.proofs.beside.run_beside.Goals as goal

pub advance_burst-pieces-requires : goal.advance_burst-pieces-requires
advance_burst-pieces-requires c = search (rules, may_run)

pub returns-clause-runs : goal.returns-clause-runs
returns-clause-runs c t computes lies = search (rules, ran_beside)
