use Rattle.std.proofs.Common.{rules}
use Rattle.wh_script_laws.proofs.Commands.{modules_follow}
use Rattle.wh_script_laws.proofs.CommandsAsked.{refuels_follow, retries_follow}
use Rattle.wh_script_laws.proofs.CommandsEnding.{cancels_follow, releases_follow}
use Rattle.wh_script_laws.proofs.CommandsCalling.{calls_follow}
use Rattle.wh_script_laws.proofs.CommandsInstances.{guests_follow}
use Rattle.wh_script_laws.proofs.Drains.{drains_begin, moves_follow, drains_end, saying_follows}
use Rattle.wh_script_laws.proofs.Opening.{going_is_known, open_is_known}
use Rattle.wh_script_laws.proofs.Turning.{turns_follow}
use Rattle.wh_script_laws.proofs.Printed.{runs_well, says_well, all_said}
use Rattle.wh_script_laws.proofs.PrintedObeyed.{nothing_well, call_well, obeys_well}
use Rattle.wh_script_laws.proofs.EndedObeyed.{ended_stays}
use Rattle.wh_script_laws.proofs.Scarce.{wants_are_named}
use Rattle.wh_script_laws.proofs.scripts_follow.Goals as goal

pub returns-clause-modules : goal.returns-clause-modules
returns-clause-modules c = modules_follow

pub returns-clause-retries : goal.returns-clause-retries
returns-clause-retries c = retries_follow

pub returns-clause-refuels : goal.returns-clause-refuels
returns-clause-refuels c = refuels_follow

pub returns-clause-cancels : goal.returns-clause-cancels
returns-clause-cancels c = cancels_follow

pub returns-clause-releases : goal.returns-clause-releases
returns-clause-releases c = releases_follow

pub returns-clause-calls : goal.returns-clause-calls
returns-clause-calls c = calls_follow

pub returns-clause-instances : goal.returns-clause-instances
returns-clause-instances c = guests_follow

pub returns-clause-begin : goal.returns-clause-begin
returns-clause-begin c = drains_begin

pub returns-clause-turns : goal.returns-clause-turns
returns-clause-turns c = turns_follow

pub returns-clause-moves : goal.returns-clause-moves
returns-clause-moves c = moves_follow

pub returns-clause-end : goal.returns-clause-end
returns-clause-end c = drains_end

pub returns-clause-printing : goal.returns-clause-printing
returns-clause-printing c = saying_follows

pub returns-clause-begins_well : goal.returns-clause-begins_well
returns-clause-begins_well c = nothing_well

pub returns-clause-runs_well : goal.returns-clause-runs_well
returns-clause-runs_well c = runs_well

pub returns-clause-says_well : goal.returns-clause-says_well
returns-clause-says_well c m starts calls instances invoked h print_starts print_calls = search (rules, says_well, all_said)

pub returns-clause-asks_well : goal.returns-clause-asks_well
returns-clause-asks_well c = call_well

pub returns-clause-obeys_well : goal.returns-clause-obeys_well
returns-clause-obeys_well c = obeys_well

pub returns-clause-ended : goal.returns-clause-ended
returns-clause-ended c = ended_stays

pub returns-clause-wants : goal.returns-clause-wants
returns-clause-wants c = wants_are_named

pub returns-clause-open : goal.returns-clause-open
returns-clause-open c = open_is_known

pub returns-clause-going : goal.returns-clause-going
returns-clause-going c = going_is_known
