use Rattle.std.proofs.Common.{◌≤◌, sym, subst}
use Rattle.std.specs.VecDeque.{deque_capacity}
use Rattle.wh_swap.specs.MemorySwaps.{memory_held}
use Rattle.wh_host.specs.Requests.{LeadsByCallRequest}
use Rattle.wh_hand.proofs.Asked.{asked_few, asked_in_hand, asked_settles, call_leads}
use Rattle.wh_hand.proofs.hand.Hand.ask.Goals as goal

pub settle-requires-clause-settles : goal.settle-requires-clause-settles
settle-requires-clause-settles g c =
    let i = c.self.inside in
    let a = c.self.invariant in
    let h2 = c.ask-answer.new.host in
    let concerns = g.met.Q.CallRequest.concerns c.args.request i.host c.ask-answer.result h2 c.ask-answer.ensures.asks in
    let leads = call_leads i.host h2 c.id-id.result (subst (λ id. LeadsByCallRequest i.host id h2) (sym c.id-id.ensures) concerns) in
    asked_settles i.host h2 c.id-id.result i.line.items c.can_go_on-stands.result a.led a.lists c.can_go_on-stands.ensures leads

pub settle-requires-clause-few : goal.settle-requires-clause-few
settle-requires-clause-few g c =
    let i = c.self.inside in
    let a = c.self.invariant in
    let h2 = c.ask-answer.new.host in
    let concerns = g.met.Q.CallRequest.concerns c.args.request i.host c.ask-answer.result h2 c.ask-answer.ensures.asks in
    asked_few i.host h2 c.id-id.result a.led a.few (call_leads i.host h2 c.id-id.result (subst (λ id. LeadsByCallRequest i.host id h2) (sym c.id-id.ensures) concerns))

pub invariant_of-self : goal.invariant_of-self
invariant_of-self g c =
    let i = c.self.inside in
    let a = c.self.invariant in
    let h2 = c.ask-answer.new.host in
    let concerns = g.met.Q.CallRequest.concerns c.args.request i.host c.ask-answer.result h2 c.ask-answer.ensures.asks in
    let leads = call_leads i.host h2 c.id-id.result (subst (λ id. LeadsByCallRequest i.host id h2) (sym c.id-id.ensures) concerns) in
    asked_in_hand i.host h2 c.id-id.result (memory_held i.device) i.line.items c.settle.new.line.items (deque_capacity i.line) (deque_capacity c.settle.new.line) a
    leads c.ask-answer.ensures.backing c.settle.ensures.lists (subst (λ n. 4096 ≤ n) (sym c.settle.ensures.room) a.enough)
