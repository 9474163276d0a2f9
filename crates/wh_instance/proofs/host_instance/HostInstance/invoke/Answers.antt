use Rattle.wh_instance.proofs.Taken.{refuses_memory, can_take, invokes}
use Rattle.wh_instance.proofs.host_instance.HostInstance.invoke.Goals as goal

pub add_call-requires-clause-can : goal.add_call-requires-clause-can
add_call-requires-clause-can c = can_take c.args.linked.now c.args.self.now c.args.name.now c.args.given.now c.in-Ok.func c.in-Ok.ensures.ok c.requires

pub returns-in-Ok-add_call-clause-ok : goal.returns-in-Ok-add_call-clause-ok
returns-in-Ok-add_call-clause-ok c = invokes c.args.linked.now c.args.self.now c.add_call.new.self c.args.name.now c.args.given.now c.args.fuel c.in-Ok-add_call.at c.in-Ok.func c.in-Ok.ensures.ok c.ranges.fuel.fits c.in-Ok-add_call.ensures.ok

pub returns-in-Err-add_call-clause-err : goal.returns-in-Err-add_call-clause-err
returns-in-Err-add_call-clause-err c = (refuses_memory c.args.linked.now c.args.self.now c.args.name.now c.args.given.now c.in-Ok.func c.in-Ok.ensures.ok, c.in-Err-add_call.ensures.err)
