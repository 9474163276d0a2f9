use Rattle.wh_instance.proofs.Taken.{refuses_export, refuses_arguments, refuses_room}
use Rattle.wh_instance.proofs.host_instance.HostInstance.check_call.Goals as goal

pub returns-in_default-clause-err : goal.returns-in_default-clause-err
returns-in_default-clause-err c = refuses_export c.args.linked.now c.args.self.now c.args.name.now c.args.given.now c.in_default.ensures.none

pub returns-then-not-takes-clause-err : goal.returns-then-not-takes-clause-err
returns-then-not-takes-clause-err c = refuses_arguments c.args.linked.now c.args.self.now c.args.name.now c.args.given.now c.in-Some.func c.in-Some.ensures.some c.in-Some.ensures.only c.if-not-takes.ensures.own

pub returns-in-Err-clause-err : goal.returns-in-Err-clause-err
returns-in-Err-clause-err c = refuses_room c.args.linked.now c.args.self.now c.args.name.now c.args.given.now c.in-Some.func c.in-Err.error c.in-Some.ensures.some c.if-not-takes.ensures.own c.in-Err.ensures.err
