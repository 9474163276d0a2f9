use Rattle.std.proofs.Common.{refl, arith}
use Rattle.std.proofs.lemmas.Option.{slice_get_within}
use Rattle.wh_call.proofs.exports.exported.Goals as goal

pub returns-then-is_func_of-clause-some : goal.returns-then-is_func_of-clause-some
returns-then-is_func_of-clause-some c = (c.loop-at.at, c.export_at-export.result.now, c.export_at-export.ensures, c.if-is_func_of.ensures.0 refl, refl)

pub returns-clause-none : goal.returns-clause-none
returns-clause-none c at e is h =
    let within = slice_get_within c.args.exports.now at e is in
    c.loop-at.invariant at e (omega (arith, within, c.loop-at-test.false, c.loop-at.auto.at-end)) is h
