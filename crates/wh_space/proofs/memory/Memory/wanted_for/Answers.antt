use Rattle.std.proofs.Common.{◌≤◌, [], None, arith}
use Rattle.wh_space_model.specs.{frames_to_write}
use Rattle.wh_space_model.proofs.Deciding.{no_bytes_are_ready}
use Rattle.wh_space.proofs.memory.Memory.wanted_for.Goals as goal

pub returns-then-need-eq0 : goal.returns-then-need-eq0
returns-then-need-eq0 c =
    let s = c.args.self.now in
    let none : frames_to_write s c.args.place c.args.need ≤ 0 = (no_bytes_are_ready (record s { pool = record s.pool { free = [] }; pins = None }) c.args.place c.args.need c.if-need-eq0.true).1 in
    omega (arith, none)
