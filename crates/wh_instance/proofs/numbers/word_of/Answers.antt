use Rattle.std.proofs.Common.{rules}
use Rattle.std.proofs.lemmas.Int.{to_z-of_z}
use Rattle.wh_instance.proofs.Given.{word_32, word_64}
use Rattle.wh_instance.proofs.numbers.word_of.Goals as goal

pub returns-in-I32 : goal.returns-in-I32
returns-in-I32 c = search (rules, word_32, to_z-of_z)

pub returns-in-I64 : goal.returns-in-I64
returns-in-I64 c = search (rules, word_64, to_z-of_z)
