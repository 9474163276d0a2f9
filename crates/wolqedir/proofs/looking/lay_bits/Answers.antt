use Rattle.std.proofs.Common.{◌++◌, map, slice_set, ap, ◌∙◌, arith}
use Rattle.wolqedir.specs.Shapes.{type_bits}
use Rattle.wolqedir.proofs.BitsLaid.{laid_on}
use Rattle.wolqedir.proofs.looking.lay_bits.Goals as goal

pub loop-at-preserved : goal.loop-at-preserved
loop-at-preserved c =
    let less = c.loop-at-test.true in
    let least = c.min-at-end.ensures in
    ap (λ room. slice_set room c.loop-at.at c.bits_at.result) c.loop-at.invariant
    ∙ laid_on (map type_bits c.args.params.now ++ map type_bits c.args.results.now) c.args.room.now c.loop-at.at c.bits_at.result c.bits_at.ensures (omega (arith, less, least))
