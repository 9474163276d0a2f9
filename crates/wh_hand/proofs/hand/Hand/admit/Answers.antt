use Rattle.wh_host_model.specs.Host.Events.{admit}
use Rattle.wh_hand.specs.HandStates.{HandState}
use Rattle.wh_host.specs.Admitting.{AnswersAdmit}
use Rattle.std.specs.Prelude.{Ok, Err}
use Rattle.std.proofs.Common.{◌≤◌, sym, subst}
use Rattle.std.specs.VecDeque.{deque_capacity}
use Rattle.wh_params.specs.View.{view_params}
use Rattle.wh_swap.specs.MemorySwaps.{memory_held}
use Rattle.wh_hand.proofs.Asked.{admit_leads, comer_few, comer_in_hand, comer_settles}
use Rattle.wh_hand.proofs.hand.Hand.admit.Goals as goal

pub settle-requires-clause-settles : goal.settle-requires-clause-settles
settle-requires-clause-settles c =
    let i = c.self.inside in
    let a = c.self.invariant in
    comer_settles i.host c.admit.new.self (admit c.args.of.number (view_params c.args.params)) c.in-Ok.id i.line.items a.led a.lists
    (admit_leads i.host c.admit.new.self c.args.of.number (view_params c.args.params) c.in-Ok.id c.admit.result c.in-Ok.is c.admit.ensures.admits)

pub settle-requires-clause-few : goal.settle-requires-clause-few
settle-requires-clause-few c =
    let i = c.self.inside in
    comer_few i.host c.admit.new.self (admit c.args.of.number (view_params c.args.params)) c.in-Ok.id c.self.invariant.led
    (admit_leads i.host c.admit.new.self c.args.of.number (view_params c.args.params) c.in-Ok.id c.admit.result c.in-Ok.is c.admit.ensures.admits)

pub invariant_of-self-2 : goal.invariant_of-self-2
invariant_of-self-2 c =
    let i = c.self.inside in
    let a = c.self.invariant in
    comer_in_hand i.host c.admit.new.self (admit c.args.of.number (view_params c.args.params)) c.in-Ok.id (memory_held i.device) i.line.items c.settle.new.line.items (deque_capacity i.line) (deque_capacity c.settle.new.line) a
    (admit_leads i.host c.admit.new.self c.args.of.number (view_params c.args.params) c.in-Ok.id c.admit.result c.in-Ok.is c.admit.ensures.admits)
    c.admit.ensures.backing c.settle.ensures.lists (subst (λ n. 4096 ≤ n) (sym c.settle.ensures.room) a.enough)

pub returns-clause-admits : goal.returns-clause-admits
returns-clause-admits c =
    subst (λ (z : HandState). AnswersAdmit z.host c.args.of.number (view_params c.args.params) (Ok c.in-Ok.id) c.admit.new.self) c.self.view_is
    c.in-Ok.ensures.admits

pub returns-in-Err-clause-admits : goal.returns-in-Err-clause-admits
returns-in-Err-clause-admits c =
    subst (λ (z : HandState). AnswersAdmit z.host c.args.of.number (view_params c.args.params) (Err c.in-Err.error) c.admit.new.self) c.self.view_is
    c.in-Err.ensures.admits
