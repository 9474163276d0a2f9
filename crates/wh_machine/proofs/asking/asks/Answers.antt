use Rattle.std.proofs.Common.{sym, ◌∙◌}
use Rattle.wh_machine.specs.CallStates.{setting_of}
use Rattle.wh_machine.proofs.Holding.{while_running}
use Rattle.wh_machine.proofs.Running.{sound_in, rests_in}
use Rattle.wh_machine.proofs.Seeing.{resting_here, seen_some, seen_none}
use Rattle.wh_machine.proofs.asking.asks.Goals as goal

pub asks_next-requires : goal.asks_next-requires
asks_next-requires g c =
    let was = while_running c.in-Some.is c.machine.view_is (sym c.is_running.ensures ∙ c.if-not-is_running.false) in
    let to_p = c.program_of-program.ensures.parts in
    let k = c.args.store.now in
    resting_here (sound_in k c.args.memory.now to_p was c.requires) c.code_of-code.ensures (rests_in k c.args.memory.now to_p was c.requires)

pub returns-clause-some : goal.returns-clause-some
returns-clause-some g c =
    let was = while_running c.in-Some.is c.machine.view_is (sym c.is_running.ensures ∙ c.if-not-is_running.false) in
    seen_some (setting_of c.args.linked.now g.M.LinearMem.bytes g.M.LinearMem.ready g.M.LinearMem.keeps (g.M.LinearMem.limit c.args.memory.now)) c.args.store.now c.args.memory.now c.asks_next.result c.program_of-program.ensures.parts was c.asks_next.ensures

pub returns-clause-none : goal.returns-clause-none
returns-clause-none g c =
    let was = while_running c.in-Some.is c.machine.view_is (sym c.is_running.ensures ∙ c.if-not-is_running.false) in
    seen_none (setting_of c.args.linked.now g.M.LinearMem.bytes g.M.LinearMem.ready g.M.LinearMem.keeps (g.M.LinearMem.limit c.args.memory.now)) c.args.store.now c.args.memory.now c.asks_next.result c.program_of-program.ensures.parts was c.asks_next.ensures
