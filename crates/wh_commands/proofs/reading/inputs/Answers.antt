use Rattle.wh_model.specs.declared.ValType.TheVariants.{I64}
use Rattle.wh_script_model.specs.{IsBits}
use Rattle.wh_commands.proofs.Asking.{reads_more, reads_none, pushed}
use Rattle.wh_commands.proofs.reading.inputs.Goals as goal

pub returns-in_default-i64_bits_in-clause-none : goal.returns-in_default-i64_bits_in-clause-none
returns-in_default-i64_bits_in-clause-none c =
    reads_none (IsBits I64) _ _ _ c.loop-word.inputs.items (IsBits I64) c.in-Some.word.now c.loop-word.invariant
    c.in-Some.ensures.some c.in_default-i64_bits_in.ensures.none

pub loop-word-preserved : goal.loop-word-preserved
loop-word-preserved c =
    reads_more (IsBits I64) _ _ _ c.loop-word.inputs.items c.push.new.self.items c.in-Some.word.now
    c.in-Some-i64_bits_in.bits c.loop-word.invariant c.in-Some.ensures.some c.in-Some-i64_bits_in.ensures.some
    (pushed _ _ _ _ _ c.push.ensures.items c.is_err.ensures.negation c.if-is_err.false)
