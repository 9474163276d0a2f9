use Rattle.wh_control.specs.Parts.{funcs_in}
use Rattle.wh_control.proofs.Constructs.{block_next}
use Rattle.wh_machine.specs.Executing.{calls_of}
use Rattle.wh_machine.proofs.ExecutingLemmas.{here, place_fits, charged_words}
use Rattle.wh_syntax.specs.declared.instr.Instr.TheVariants.{Block}
use Rattle.wh_machine.proofs.instructions.exec_block.Goals as goal

pub advance-requires : goal.advance-requires
advance-requires c = place_fits c.requires.1.ready

pub returns : goal.returns
returns c code =
    let m = c.args.stack.now in
    charged_words code m c.advance.new.stack m.words (Block c.args.result_type) c.advance.ensures (λ p k flat most r cx inst out s a ws st.
    block_next inst cx (funcs_in p) out (calls_of m) s m.frame a ws st.running c.args.result_type (here r))
