use Rattle.std.proofs.Common.{is_some, option_map}
use Rattle.wh_settings.specs.View.{settings_of}
use Rattle.wasmhost_program.specs.ProgramOutput.{has_settings}
use Rattle.wasmhost_program.proofs.Runs.{by_file, holds_over, no_settings, not_for_output, settings_fault_so}
use Rattle.wasmhost_program.proofs.program.run_given.Goals as goal

pub returns-in-Ok-clause-amid : goal.returns-in-Ok-clause-amid
returns-in-Ok-clause-amid g c = holds_over c.run_with.result.1 _ _ (λ met runs. has_settings (settings_of c.in-Ok.settings) c.in-Ok.ensures.settings runs) c.run_with.ensures.amid

pub returns-in-Err-clause-amid : goal.returns-in-Err-clause-amid
returns-in-Err-clause-amid g c =
    no_settings (g.S.Folder.known c.args.folder.now) (g.S.Source.files c.args.folder.now) (option_map (λ p. p.now) c.args.given.settings) (option_map (λ p. p.now) c.args.given.script)
    (g.R.Read.remaining c.args.input.now.inner) (g.W.Write.contents c.args.output.now.inner) c.in-Err.fault c.in-Err.ensures.named c.in-Err.ensures.err

pub returns-in-Ok-clause-config : goal.returns-in-Ok-clause-config
returns-in-Ok-clause-config g c =
    by_file (g.S.Folder.known c.args.folder.now) (option_map (λ p. p.now) c.args.given.settings) (settings_of c.in-Ok.settings) c.args.given.workers.number c.run_with.result.0
    (is_some c.run_with.result.1) c.run_with.result.2 c.in-Ok.ensures.settings c.run_with.ensures.config

pub returns-in-Err-clause-config : goal.returns-in-Err-clause-config
returns-in-Err-clause-config g c same = absurd (cc same)

pub returns-in-Err-clause-output : goal.returns-in-Err-clause-output
returns-in-Err-clause-output g c = not_for_output _ c.in-Err.fault (settings_fault_so c.in-Err.fault c.in-Err.ensures.err)
