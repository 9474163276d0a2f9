use Rattle.wh_commands.proofs.Cut.{word_utf8}
use Rattle.wh_commands.proofs.shapes.text_of.Goals as goal

pub unreachable-requires : goal.unreachable-requires
unreachable-requires c = c.in-Err.ensures.cases.0 (word_utf8 c.args.word.now c.requires)
