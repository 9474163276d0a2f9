use Rattle.std.proofs.Common.{◌+◌, ap, length, arith}
use Rattle.wh_machine.proofs.Accessing.{load_index}
use Rattle.wh_machine.proofs.Seeing.{load_looks}
use Rattle.wh_machine.proofs.asking.asks_load.Goals as goal

pub top-requires : goal.top-requires
top-requires g c = let l = ap length (load_index c.args.op c.args.align c.args.offset c.requires.3).2 in omega (arith, l)

pub overflow_add-address : goal.overflow_add-address
overflow_add-address g c =
    let o = load_index c.args.op c.args.align c.args.offset c.requires.3 in
    let e = c.top.ensures o.0 o.1 o.2 in
    omega (arith, e, c.from.ensures, o.3, c.ranges.offset.fits)

pub within-requires : goal.within-requires
within-requires g c =
    let o = load_index c.args.op c.args.align c.args.offset c.requires.3 in
    let e = c.top.ensures o.0 o.1 o.2 in
    omega (arith, e, c.from.ensures, o.3, c.ranges.offset.fits, c.load_width.ensures.few)

pub returns : goal.returns
returns g c p code k r =
    let f = c.from.ensures in
    load_looks c.args.op c.args.align c.args.offset r c.top.result (c.top.result + c.from.result) c.load_width.result c.within.result c.top.ensures (omega (arith, f)) c.load_width.ensures.value c.within.ensures
