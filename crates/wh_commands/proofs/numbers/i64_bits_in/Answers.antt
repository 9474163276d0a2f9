use Rattle.std.proofs.Common.{rules, FitsSigned}
use Rattle.std.specs.Int.{w128}
use Rattle.std.proofs.lemmas.Int.{to_z-of_z}
use Rattle.wh_commands.proofs.Digits.{bits_64}
use Rattle.wh_commands.proofs.numbers.i64_bits_in.Goals as goal

pub returns-clause-some : goal.returns-clause-some
returns-clause-some c =
    let fits : FitsSigned w128 c.in_ok-number.number = search rules in
    bits_64 c.args.word.now c.in_ok-number.number _ c.rem_euclid.result _ c.in_ok-number.ensures.some
    (to_z-of_z w128 c.in_ok-number.number fits)
    (to_z-of_z w128 c.rem_euclid.result (record { sfits = c.rem_euclid.type_inv })) c.rem_euclid.ensures.value
    c.if-number-ltminus9223372036854775808.false c.if-number-gt18446744073709551615.false
