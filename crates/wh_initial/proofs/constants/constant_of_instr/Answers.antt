use Rattle.std.proofs.Common.{rules, ◌∙◌, ap, sym, w32, w64, of_z, SFits}
use Rattle.std.proofs.lemmas.Int.{to_z-of_z}
use Rattle.wh_intops.proofs.Numerals.{narrow_32, unsigned_64}
use Rattle.wh_initial.specs.ConstantWords.{word_at}
use Rattle.wh_initial.proofs.constants.constant_of_instr.Goals as goal

pub returns-in-I32Const : goal.returns-in-I32Const
returns-in-I32Const c =
    let n = c.in-I32Const.number in
    let fits : SFits w32 n = search rules in
    record {
      below = λ count has. tt;
      word = λ words. c.from.ensures ∙ c.cast_unsigned.ensures ∙ ap (of_z w32) (to_z-of_z w32 n fits) ∙ narrow_32 n
          fits ∙ sym (ap (word_at words) c.in-I32Const.is);
    }

pub returns-in-I64Const : goal.returns-in-I64Const
returns-in-I64Const c =
    let n = c.in-I64Const.number in
    let fits : SFits w64 n = search rules in
    record {
      below = λ count has. tt;
      word = λ words. c.cast_unsigned-in-I64Const.ensures ∙ ap (of_z w64) (to_z-of_z w64 n fits) ∙ unsigned_64 n fits
          ∙ sym (ap (word_at words) c.in-I64Const.is);
    }
