use Rattle.std.proofs.Common.{◌∙◌}
use Rattle.wh_initial.proofs.WordLemmas.{has_word, same_word}
use Rattle.wh_initial.proofs.constants.constant_of.Goals as goal

pub constant_of_instr-requires : goal.constant_of_instr-requires
constant_of_instr-requires c = (
  c.requires.0,
  has_word c.requires.0 c.flat.result.labels.now c.flat.result.instrs.now
      _ c.args.expr.now c.flat.ensures.instrs c.requires.1,
)

pub returns : goal.returns
returns c = record {
  below = λ count seen. c.constant_of_instr.ensures.below count
      (has_word count c.flat.result.labels.now c.flat.result.instrs.now _ c.args.expr.now c.flat.ensures.instrs seen);
  word = λ words. c.constant_of_instr.ensures.word words ∙ same_word c.requires.0 words c.flat.result.labels.now
      c.flat.result.instrs.now _ c.args.expr.now c.flat.ensures.instrs c.requires.1;
}
