use denote.Exit.{no}
use denote.Param.Send.{arg_send, param_send}
use Rattle.std.proofs.Common.{ap, is_some, option_map}
use Rattle.wh_settings.specs.View.{settings_of}
use Rattle.wasmhost_program.specs.ProgramOutput.{has_run}
use Rattle.wasmhost_program.proofs.Runs.{device_fault_so, holds_back, no_device, not_for_output, over_file, stops_for_output}
use Rattle.wasmhost_program.proofs.Sent.{swap_send}
use Rattle.wasmhost_program.proofs.program.run_on_file.Goals as goal

pub run_over-outcome-requires-send-D : goal.run_over-outcome-requires-send-D
run_over-outcome-requires-send-D g c κs within = param_send 2 _ (arg_send _ no _ (swap_send _ c.type_bounds.send-E-File))

pub returns-in-Ok-clause-amid : goal.returns-in-Ok-clause-amid
returns-in-Ok-clause-amid g c = rw c.outcome_of.ensures (holds_back _ c.run_over-outcome.result.1 _ _ c.in-Ok.ensures.faults (λ met runs. has_run _ runs) c.run_over-outcome.ensures.amid)

pub returns-in-Err-clause-amid : goal.returns-in-Err-clause-amid
returns-in-Err-clause-amid g c =
    no_device (g.S.Folder.known c.args.folder.now) (g.S.Source.files c.args.folder.now) (settings_of c.args.settings.now) (option_map (λ p. p.now) c.args.given.script) (g.R.Read.remaining c.args.input.now.inner)
    (g.W.Write.contents c.args.output.now.inner) c.in-Err.fault (ap is_some c.requires) c.in-Err.ensures.err

pub returns-in-Ok-clause-config : goal.returns-in-Ok-clause-config
returns-in-Ok-clause-config g c =
    let settings = settings_of c.args.settings.now in
    rw c.outcome_of.ensures (over_file settings c.args.given.workers.number c.args.own.now.path.now c.run_over-outcome.result.0 c.run_over-outcome.result.1 c.run_over-outcome.result.2 c.requires c.run_over-outcome.ensures.config)

pub returns-in-Err-clause-config : goal.returns-in-Err-clause-config
returns-in-Err-clause-config g c same = absurd (cc same)

pub returns-in-Ok-clause-output : goal.returns-in-Ok-clause-output
returns-in-Ok-clause-output g c = rw c.outcome_of.ensures (stops_for_output _ c.run_over-outcome.result.0 c.run_over-outcome.ensures.output)

pub returns-in-Err-clause-output : goal.returns-in-Err-clause-output
returns-in-Err-clause-output g c = not_for_output _ c.in-Err.fault (device_fault_so c.in-Err.fault c.in-Err.ensures.err)
