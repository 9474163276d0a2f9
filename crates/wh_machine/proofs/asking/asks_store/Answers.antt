use Rattle.std.proofs.Common.{◌+◌, ap, length, arith}
use Rattle.wh_machine.proofs.Accessing.{store_index}
use Rattle.wh_machine.proofs.Seeing.{store_looks}
use Rattle.wh_machine.proofs.asking.asks_store.Goals as goal

pub second-requires : goal.second-requires
second-requires g c = let l = ap length (store_index c.args.op c.args.align c.args.offset c.requires.3).3 in omega (arith, l)

pub overflow_add-address : goal.overflow_add-address
overflow_add-address g c =
    let o = store_index c.args.op c.args.align c.args.offset c.requires.3 in
    let e = c.second.ensures o.0 o.1 o.2 o.3 in
    omega (arith, e, c.from.ensures, o.4, c.ranges.offset.fits)

pub within-requires : goal.within-requires
within-requires g c =
    let o = store_index c.args.op c.args.align c.args.offset c.requires.3 in
    let e = c.second.ensures o.0 o.1 o.2 o.3 in
    omega (arith, e, c.from.ensures, o.4, c.ranges.offset.fits, c.store_width.ensures.few)

pub returns : goal.returns
returns g c p code k r =
    let f = c.from.ensures in
    store_looks c.args.op c.args.align c.args.offset r c.second.result (c.second.result + c.from.result) c.store_width.result c.within.result c.second.ensures (omega (arith, f)) c.store_width.ensures.value c.within.ensures
