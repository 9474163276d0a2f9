use Rattle.std.specs.Prelude.{Ok, Err}
use Rattle.std.proofs.Common.{◌≤◌, sym, subst}
use Rattle.std.specs.VecDeque.{deque_capacity}
use Rattle.wh_params.specs.View.{view_quota}
use Rattle.wh_host_model.specs.Host.Events.{fork}
use Rattle.wh_swap.specs.MemorySwaps.{memory_held}
use Rattle.wh_host.specs.ForkAnswers.{AnswersFork}
use Rattle.wh_hand.specs.HandStates.{HandState}
use Rattle.wh_hand.proofs.Asked.{comer_few, comer_in_hand, comer_settles, fork_leads}
use Rattle.wh_hand.proofs.hand.Hand.fork.Goals as goal

pub settle-requires-clause-settles : goal.settle-requires-clause-settles
settle-requires-clause-settles c =
    let i = c.self.inside in
    let a = c.self.invariant in
    comer_settles i.host c.fork.new.self (fork c.args.id (view_quota c.args.quota)) c.in-Ok.copy i.line.items a.led a.lists
    (fork_leads i.host c.fork.new.self c.args.id (view_quota c.args.quota) c.in-Ok.copy c.fork.result c.in-Ok.is c.fork.ensures.forks)

pub settle-requires-clause-few : goal.settle-requires-clause-few
settle-requires-clause-few c =
    let i = c.self.inside in
    comer_few i.host c.fork.new.self (fork c.args.id (view_quota c.args.quota)) c.in-Ok.copy c.self.invariant.led
    (fork_leads i.host c.fork.new.self c.args.id (view_quota c.args.quota) c.in-Ok.copy c.fork.result c.in-Ok.is c.fork.ensures.forks)

pub invariant_of-self-2 : goal.invariant_of-self-2
invariant_of-self-2 c =
    let i = c.self.inside in
    let a = c.self.invariant in
    comer_in_hand i.host c.fork.new.self (fork c.args.id (view_quota c.args.quota)) c.in-Ok.copy (memory_held i.device) i.line.items c.settle.new.line.items (deque_capacity i.line) (deque_capacity c.settle.new.line) a
    (fork_leads i.host c.fork.new.self c.args.id (view_quota c.args.quota) c.in-Ok.copy c.fork.result c.in-Ok.is c.fork.ensures.forks)
    c.fork.ensures.backing c.settle.ensures.lists (subst (λ n. 4096 ≤ n) (sym c.settle.ensures.room) a.enough)

pub returns-clause-forks : goal.returns-clause-forks
returns-clause-forks c =
    subst (λ (z : HandState). AnswersFork z.host c.args.id (view_quota c.args.quota) (Ok c.in-Ok.copy) c.fork.new.self) c.self.view_is
    c.in-Ok.ensures.forks

pub returns-in-Err-clause-forks : goal.returns-in-Err-clause-forks
returns-in-Err-clause-forks c =
    subst (λ (z : HandState). AnswersFork z.host c.args.id (view_quota c.args.quota) (Err c.in-Err.error) c.fork.new.self) c.self.view_is
    c.in-Err.ensures.forks
