use Rattle.std.proofs.Common.{map, take}
use Rattle.wh_syntax.specs.View.{view_global_type}
use Rattle.wh_validate.proofs.ConstantCode.{first_decides}
use Rattle.wh_validate.proofs.Deciding.{decides_same}
use Rattle.wh_validate.proofs.constants.check_constant.Goals as goal

pub returns-clause-decides : goal.returns-clause-decides
returns-clause-decides c =
    let flat = c.flat.result in
    let seen = map view_global_type (take c.args.seen c.args.globals.now) in
    decides_same c.check_instr.result (first_decides seen flat.labels.now flat.instrs.now _ c.args.expr.now c.args.wanted c.flat.ensures.instrs c.if-instrs-ne2.false) c.check_instr.ensures.decides
