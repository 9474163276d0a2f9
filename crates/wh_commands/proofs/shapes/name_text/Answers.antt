use Rattle.wh_commands.proofs.Cut.{name_word}
use Rattle.wh_commands.proofs.shapes.name_text.Goals as goal

pub text_of-requires : goal.text_of-requires
text_of-requires c = name_word c.args.name.now c.requires
