use Rattle.std.proofs.Common.{option_map, subst, sym, ℕ, List, MatchOption, []}
use Rattle.wh_settings.specs.View.{settings_of}
use Rattle.wh_engine.specs.Draining.{HoldsAmid}
use Rattle.wasmhost_program.specs.ProgramOutput.{RunsScript, runs_amid}
use Rattle.wasmhost_program.proofs.Runs.{matched_file, output_blamed}
use Rattle.wasmhost_program.proofs.program.run_over.Goals as goal

pub returns-clause-amid : goal.returns-clause-amid
returns-clause-amid g c =
    let known = g.S.Folder.known c.args.folder.now in
    let files = g.S.Source.files c.args.folder.now in
    let settings = settings_of c.args.settings.now in
    let input = g.R.Read.remaining c.args.input.now.inner in
    let before = g.W.Write.contents c.args.output.now.inner in
    let after = g.W.Write.contents c.run_script-ended.new.writer.inner in
    let ended = c.run_script-ended.result.0 in
    subst (λ script.
    MatchOption c.run_script-ended.result.1
    (RunsScript (runs_amid []) known files settings (option_map (λ p. p.now) script) input input before after ended)
    (λ back. HoldsAmid (g.D.SwapDev.honest back) (g.D.SwapDev.faults c.args.device) (g.D.SwapDev.faults back)
    (λ (met : List ℕ). RunsScript (runs_amid met) known files settings (option_map (λ p. p.now) script) input input before after
    ended)))
    (sym c.in-Some.is)
    (matched_file g.D.SwapDev.honest g.D.SwapDev.faults c.args.device c.run_script-ended.result.1 known files settings _ input _ before
    after ended (rw c.new-file.ensures.inner at c.run_script-ended.ensures.amid))

pub returns-in_default-clause-output : goal.returns-in_default-clause-output
returns-in_default-clause-output g c = output_blamed _ _ c.run_script.result.0 c.run_script.ensures.blames

pub returns-clause-output : goal.returns-clause-output
returns-clause-output g c = output_blamed _ _ c.run_script-ended.result.0 c.run_script-ended.ensures.blames
