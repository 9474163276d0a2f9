use Rattle.std.proofs.Common.{option_map}
use Rattle.wh_settings.specs.View.{settings_of}
use Rattle.wasmhost_program.specs.ProgramOutput.{RunsScript, runs_amid}
use Rattle.wasmhost_program.proofs.Runs.{in_manner, memory_holds, no_memory}
use Rattle.wasmhost_program.proofs.program.run_in_memory.Goals as goal

pub returns-in_default-clause-amid : goal.returns-in_default-clause-amid
returns-in_default-clause-amid g c =
    no_memory (g.S.Folder.known c.args.folder.now) (g.S.Source.files c.args.folder.now) (settings_of c.args.settings.now) (option_map (λ p. p.now) c.args.given.script) (g.R.Read.remaining c.args.input.now.inner)
    (g.W.Write.contents c.args.output.now.inner)

pub returns-clause-amid : goal.returns-clause-amid
returns-clause-amid g c =
    memory_holds c.run_over-outcome.result.1
    (λ met. RunsScript (runs_amid met) (g.S.Folder.known c.args.folder.now) (g.S.Source.files c.args.folder.now) (settings_of c.args.settings.now) (option_map (λ p. p.now) c.args.given.script)
    (g.R.Read.remaining c.args.input.now.inner) (g.R.Read.remaining c.run_over-outcome.new.input.inner) (g.W.Write.contents c.args.output.now.inner) (g.W.Write.contents c.run_over-outcome.new.output.inner) c.run_over-outcome.result.0)
    c.run_over-outcome.ensures.amid

pub returns-clause-config : goal.returns-clause-config
returns-clause-config g c =
    in_manner (settings_of c.args.settings.now) c.args.given.workers.number c.run_over-outcome.result.0 c.run_over-outcome.result.1 c.run_over-outcome.result.2 c.run_over-outcome.ensures.config
