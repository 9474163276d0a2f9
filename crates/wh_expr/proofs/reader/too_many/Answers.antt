use Rattle.std.proofs.Common.{◌<◌, length, arith, refl}
use Rattle.std.proofs.lemmas.List.{drop_more}
use Rattle.wh_expr.proofs.reader.too_many.Goals as goal

pub returns-else-at-bytes : goal.returns-else-at-bytes
returns-else-at-bytes c =
    let lt : c.args.at < length c.args.bytes.now = omega arith in
    rw (drop_more c.args.bytes.now c.args.at 0 lt) refl
