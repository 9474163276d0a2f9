use Rattle.wh_machine.proofs.Hosted.{put_turn, emit_turn}
use Rattle.wh_machine.proofs.hosts.call_host.Goals as goal

pub returns-else-not-host_put-clause-executed : goal.returns-else-not-host_put-clause-executed
returns-else-not-host_put-clause-executed g c =
    put_turn c.args.func c.in-Put.is (g.M.LinearMem.ready c.args.memory.now) (g.M.LinearMem.bytes c.args.memory.now) c.host_put.new.words c.args.stack.now c.advance-in-Put.new.stack c.args.store.now c.host_put.new.store c.if-not-host_put.ensures.puts c.advance-in-Put.ensures

pub returns-in-Done-clause-executed : goal.returns-in-Done-clause-executed
returns-in-Done-clause-executed g c =
    emit_turn c.args.func c.in-Emit.is (g.M.LinearMem.ready c.args.memory.now) (g.M.LinearMem.bytes c.args.memory.now) c.host_emit.new.words c.args.stack.now c.advance-in-Done.new.stack c.args.store.now c.host_emit.new.store c.in-Done.ensures.emits c.advance-in-Done.ensures
