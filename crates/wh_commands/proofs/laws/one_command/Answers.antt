use Rattle.wh_commands.proofs.OneCommand as lemmas
use Rattle.wh_commands.proofs.laws.one_command.Goals as goal

pub returns : goal.returns
returns c = lemmas.one_command
