use Rattle.std.proofs.Common.{◌∙◌, ap, w32, of_z}
use Rattle.std.proofs.lemmas.Int.{to_z-of_z}
use Rattle.wh_intops.proofs.Numerals.{narrow_32}
use Rattle.wh_machine.proofs.bytes.word_of_i32.Goals as goal

pub returns-clause-value : goal.returns-clause-value
returns-clause-value c = c.from.ensures ∙ c.cast_unsigned.ensures ∙ ap (of_z w32) (to_z-of_z w32 c.args.number c.ranges.number) ∙ narrow_32 c.args.number c.ranges.number
