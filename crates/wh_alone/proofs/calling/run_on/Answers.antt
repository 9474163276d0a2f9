use Rattle.wh_model.specs.Execution.{stays}
use Rattle.wh_machine.specs.CallStates.{call_state}
use Rattle.wh_call.specs.Ends.{TakesTo}
use Rattle.wh_alone.specs.InstanceStates.{flat_setting}
use Rattle.wh_alone.proofs.Ending.{answered, comes_by}
use Rattle.wh_alone.proofs.calling.run_on.Goals as goal

pub outcome_of-requires : goal.outcome_of-requires
outcome_of-requires c =
    let r = c.requires in
    let x = c.run_on-end.ensures.ends r.out r.inst r.cfg r.stands in
    let w = flat_setting c.args.linked.now c.args.memory.now.limit in
    answered c.args.linked.now c.args.memory.now.limit (call_state c.run_on-end.new.machine c.run_on-end.new.store c.run_on-end.new.memory) r.out r.inst (TakesTo w r.inst c.args.memory.now r.cfg c.run_on-end.new.memory) c.args.fuel c.run_on-end.result.0 c.run_on-end.result.1 x.0 x.1

pub returns : goal.returns
returns c out inst cfg st settled =
    comes_by c.args.linked.now (call_state c.args.machine.now c.args.store.now c.args.memory.now) (call_state c.run_on-end.new.machine c.run_on-end.new.store c.run_on-end.new.memory) out inst cfg cfg c.args.fuel c.run_on-end.result.0 c.run_on-end.result.1 c.outcome_of.result
    c.run_on-end.ensures.keeps c.outcome_of.ensures (stays, settled) (c.run_on-end.ensures.ends out inst cfg st)
