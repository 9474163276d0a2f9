use Rattle.std.proofs.Common.{ap, is_some, option_map, refl, string_bytes}
use Rattle.wasmhost_program.specs.ProgramOutput.{has_no_swap, has_run}
use Rattle.wasmhost_program.proofs.Runs.{stops_for_output}
use Rattle.wasmhost_program.proofs.program.run_with.Goals as goal

pub returns-in_default-clause-amid : goal.returns-in_default-clause-amid
returns-in_default-clause-amid g c = rw c.outcome_of.ensures (has_run _ c.run_in_memory-outcome.ensures.amid)

pub returns-in_default-opened-clause-amid : goal.returns-in_default-opened-clause-amid
returns-in_default-opened-clause-amid g c = has_no_swap (ap (λ o. is_some (option_map string_bytes o)) c.in-Some.is) refl refl

pub returns-in_default-clause-output : goal.returns-in_default-clause-output
returns-in_default-clause-output g c = rw c.outcome_of.ensures (stops_for_output _ c.run_in_memory-outcome.result.0 c.run_in_memory-outcome.ensures.output)
