use Rattle.std.proofs.Common.{rules, FitsSigned}
use Rattle.std.specs.Int.{w128}
use Rattle.std.proofs.lemmas.Int.{to_z-of_z}
use Rattle.wh_commands.proofs.Digits.{bits_32}
use Rattle.wh_commands.proofs.numbers.i32_bits_in.Goals as goal

pub returns-clause-some : goal.returns-clause-some
returns-clause-some c =
    let fits : FitsSigned w128 c.in_ok-number.number = search rules in
    bits_32 c.args.word.now c.in_ok-number.number _ c.rem_euclid.result _ c.in_ok-number.ensures.some
    (to_z-of_z w128 c.in_ok-number.number fits)
    (to_z-of_z w128 c.rem_euclid.result (record { sfits = c.rem_euclid.type_inv })) c.rem_euclid.ensures.value
    c.if-number-ltminus2147483648.false c.if-number-gt4294967295.false
