use Rattle.std.proofs.Common.{arith, ◌<◌, ◌∙◌, ◌||◌, inr, length, ap, subst, sym}
use Rattle.wh_cell.specs.Locking.{BooksState}
use Rattle.wh_threads.specs.declared.own_count.OwnCount.{OwnCount}
use Rattle.wh_scheduler.specs.InHand.{left_of}
use Rattle.wh_space_model.specs.{Epochs}
use Rattle.wh_engine.specs.Draining.{DeviceMayFail, DeviceStaysTrue, RunsTurns, SomeGoes}
use Rattle.wh_engine.specs.RepresentedScript.{ScriptHostState}
use Rattle.wh_engine.proofs.Opened.{goes_open}
use Rattle.wh_engine.proofs.Resting.{some_items}
use Rattle.wh_engine.proofs.Runs.{may_fail_on, may_fail_same, ran_each, ran_nobody, true_on, true_same}
use Rattle.wh_engine.proofs.Turned.{no_turns, turns_told}
use Rattle.wh_engine.proofs.script_host.ScriptHost.run.Goals as goal

pub returns-then-is_empty-clause-runs : goal.returns-then-is_empty-clause-runs
returns-then-is_empty-clause-runs g c = rw (← c.self.view_is) (λ rest. ran_nobody g.D.SwapDev.honest g.D.SwapDev.faults _ rest)

pub returns-clause-runs : goal.returns-clause-runs
returns-clause-runs g c =
    rw (← c.self.view_is) (λ rest.
    ran_each g.D.SwapDev.keeps g.D.SwapDev.honest g.D.SwapDev.faults _ _ _ c.run_host-lacked.new.host _ c.self-2.view_is
    c.run_host-lacked.ensures.came c.epoch.ensures.stands c.epoch.ensures.device c.invariant.ensures.together.none_out rest)

-- a call could go on when it began
pub returns-clause-begins : goal.returns-clause-begins
returns-clause-begins g c =
    let some : 0 < length c.in-Ok.ids.items = grind (arith, c.in-Ok.ids.ok.0, c.if-is_empty.false, c.is_empty.ensures) in
    let goes = subst SomeGoes c.host-host.ensures (c.in-Ok.ensures (some_items c.in-Ok.ids.items some)) in
    inr (rw (← c.self.view_is) (goes_open _ goes))

pub returns-then-is_empty-clause-turns : goal.returns-then-is_empty-clause-turns
returns-then-is_empty-clause-turns g c = rw (← c.self.view_is) (no_turns c.args.run_config.quantum c.self.inside.lacked_threads c.self.inside.host.books c.self.inside.host.own)

pub returns-then-is_empty-clause-device : goal.returns-then-is_empty-clause-device
returns-then-is_empty-clause-device g c = rw (← c.self.view_is) (true_same g.D.SwapDev.keeps g.D.SwapDev.honest c.self.inside.host.device)

pub returns-then-is_empty-clause-faults : goal.returns-then-is_empty-clause-faults
returns-then-is_empty-clause-faults g c = rw (← c.self.view_is) (may_fail_same g.D.SwapDev.faults c.self.inside.host.device)

pub returns-clause-device : goal.returns-clause-device
returns-clause-device g c =
    rw (← c.self.view_is) (
    let device = ap (λ (z : ScriptHostState g.row.D.Denot). z.host.device) c.self-2.view_is ∙ c.epoch.ensures.device in
    subst (λ o. DeviceStaysTrue g.D.SwapDev.keeps g.D.SwapDev.honest o c.run_host-lacked.new.host.device) device
    (true_on g.D.SwapDev.keeps g.D.SwapDev.honest g.D.SwapDev.faults (left_of c.self-2.inside.host) (left_of c.run_host-lacked.new.host) c.run_host-lacked.ensures.came))

pub returns-clause-faults : goal.returns-clause-faults
returns-clause-faults g c =
    rw (← c.self.view_is) (
    let device = ap (λ (z : ScriptHostState g.row.D.Denot). z.host.device) c.self-2.view_is ∙ c.epoch.ensures.device in
    subst (λ o. DeviceMayFail g.D.SwapDev.faults o c.run_host-lacked.new.host.device) device
    (may_fail_on g.D.SwapDev.keeps g.D.SwapDev.honest g.D.SwapDev.faults (left_of c.self-2.inside.host) (left_of c.run_host-lacked.new.host) c.run_host-lacked.ensures.came))

pub returns-clause-turns : goal.returns-clause-turns
returns-clause-turns g c =
    rw (← c.self.view_is) (
    let q = c.args.run_config.quantum in
    let new = c.run_host-lacked.new.host in
    let was = c.self-2.inside.host in
    let books = ap (λ (z : ScriptHostState g.row.D.Denot). z.host.books) c.self-2.view_is ∙ c.epoch.ensures.books in
    let own = ap (λ (z : ScriptHostState g.row.D.Denot). z.host.own) c.self-2.view_is ∙ c.epoch.ensures.own in
    let told = c.self-2.inside.lacked_threads || c.run_host-lacked.result in
    subst (λ (o : OwnCount). RunsTurns q told c.self.inside.host.books o new.books new.own) own
    (subst (λ (b : BooksState). RunsTurns q told b was.own new.books new.own) books
    (turns_told q c.self-2.inside.lacked_threads c.run_host-lacked.result was.books new.books was.own new.own c.run_host-lacked.ensures.turns)))

pub returns-clause-epoch : goal.returns-clause-epoch
returns-clause-epoch g c =
    inr (rw (← c.self.view_is) (
    let space = ap (λ (z : ScriptHostState g.row.D.Denot). z.host.host.space) c.self-2.view_is in
    let device = ap (λ (z : ScriptHostState g.row.D.Denot). z.host.device) c.self-2.view_is ∙ c.epoch.ensures.device in
    record {
      begun = c.self-2.inside.host;
      clears = subst (λ s. Epochs c.self.inside.host.host.space s) (sym space) c.epoch.ensures.clears;
      same = device;
      works = c.run_host-lacked.ensures.came;
    }))
