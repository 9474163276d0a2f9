use Rattle.std.proofs.Common.{◌<◌, ◌+◌, arith, length}
use Rattle.wh_model.specs.Execution.{call_depth}
use Rattle.wh_machine.proofs.calling.enter_own.Goals as goal

pub enter-requires-clause-params : goal.enter-requires-clause-params
enter-requires-clause-params c =
    let g = c.requires.there.0 in
    let low = c.requires.params g c.requires.there.1 in
    let size = c.frame_size-params.ensures g c.requires.there.1 in
    omega (arith, low, size.0)

pub enter-requires-clause-room : goal.enter-requires-clause-room
enter-requires-clause-room c =
    let g = c.requires.there.0 in
    let size = c.frame_size-params.ensures g c.requires.there.1 in
    let shallow : length c.args.stack.now.waiting + 1 < call_depth = omega (arith, c.len.ensures, c.if-len-ge-CALL_DEPTH.false) in
    let low = c.requires.room g c.requires.there.1 shallow in
    omega (arith, low, size.1)
