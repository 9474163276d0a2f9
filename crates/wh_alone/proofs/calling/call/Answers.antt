use Rattle.std.proofs.Common.{[], reverse}
use Rattle.wh_model.specs.Format.{nothing}
use Rattle.wh_model.specs.Execution.{called, config}
use Rattle.wh_control.specs.Represents.{result_of}
use Rattle.wh_machine.specs.CallStates.{call_state}
use Rattle.wh_call.specs.Ends.{TakesTo}
use Rattle.wh_alone.specs.InstanceStates.{flat_setting}
use Rattle.wh_alone.proofs.Ending.{answered, comes_by}
use Rattle.wh_alone.proofs.calling.call.Goals as goal

pub outcome_of-requires : goal.outcome_of-requires
outcome_of-requires c =
    let r = c.requires in
    let x = c.call-end.ensures.ends r.context r.inst r.s r.type r.body r.vs r.around r.suits in
    let w = flat_setting c.args.linked.now c.args.memory.now.limit in
    answered c.args.linked.now c.args.memory.now.limit (call_state c.call-end.new.machine c.call-end.new.store c.call-end.new.memory) (result_of r.type) r.inst (TakesTo w r.inst c.args.memory.now x.0 c.call-end.new.memory) c.args.fuel c.call-end.result.0 c.call-end.result.1 x.2 x.3

pub returns : goal.returns
returns c cx inst s type body vs st u =
    let x = c.call-end.ensures.ends cx inst s type body vs st u in
    comes_by c.args.linked.now (call_state c.args.machine.now c.args.store.now c.args.memory.now) (call_state c.call-end.new.machine c.call-end.new.store c.call-end.new.memory) (result_of type) inst x.0 (config s [] (called type body (reverse vs) [] nothing)) c.args.fuel c.call-end.result.0 c.call-end.result.1 c.outcome_of.result
    c.call-end.ensures.keeps c.outcome_of.ensures x.1 (x.2, x.3, x.4)
