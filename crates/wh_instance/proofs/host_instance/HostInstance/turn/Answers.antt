use Rattle.wh_machine.specs.CallStates.{setting_of}
use Rattle.wh_instance.proofs.Advanced.{present}
use Rattle.wh_instance.proofs.Finished.{finishes, may_finish}
use Rattle.wh_instance.proofs.host_instance.HostInstance.turn.Goals as goal

pub finish-requires : goal.finish-requires
finish-requires g c =
    let w = setting_of c.args.linked.now g.M.LinearMem.bytes g.M.LinearMem.ready g.M.LinearMem.keeps (g.M.LinearMem.limit c.args.memory.now) in
    let p = present w c.args.self.now c.args.memory.now c.requires in
    let k = c.advance-came in
    let a = k.ensures.advances p.t p.e p.es p.is_open p.represents in
    may_finish w c.args.q c.args.self.now k.new.self c.args.memory.now k.new.memory p.t p.e p.es k.result.0 k.result.1 k.result.2 p.represents p.is_open k.ensures.stays a

pub returns-clause-turns : goal.returns-clause-turns
returns-clause-turns g c t e es is_open rep =
    let w = setting_of c.args.linked.now g.M.LinearMem.bytes g.M.LinearMem.ready g.M.LinearMem.keeps (g.M.LinearMem.limit c.args.memory.now) in
    let k = c.advance-came in
    let a = k.ensures.advances t e es is_open rep in
    finishes w c.args.q c.args.self.now k.new.self c.args.memory.now k.new.memory t e es k.result.0 k.result.1 k.result.2 c.finish.result c.finish.new.self rep is_open k.ensures.stays a c.finish.ensures
