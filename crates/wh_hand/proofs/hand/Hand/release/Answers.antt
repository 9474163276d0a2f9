use Rattle.wh_hand.specs.HandStates.{HandState}
use Rattle.wh_hand.specs.ReleasedOutputs.{AnswersReleaseHere}
use Rattle.std.specs.Prelude.{Ok, Err}
use Rattle.std.proofs.Common.{◌≤◌, sym, subst}
use Rattle.std.specs.VecDeque.{deque_capacity}
use Rattle.wh_swap.specs.MemorySwaps.{memory_held}
use Rattle.wh_hand.proofs.Asked.{asked_few, asked_in_hand, asked_settles, release_err, release_here, release_leads}
use Rattle.wh_hand.proofs.hand.Hand.release.Goals as goal

pub settle-requires-clause-settles : goal.settle-requires-clause-settles
settle-requires-clause-settles c =
    let i = c.self.inside in
    let a = c.self.invariant in
    asked_settles i.host c.release.new.self c.args.id i.line.items c.can_go_on-stands.result a.led a.lists c.can_go_on-stands.ensures
    (release_leads i.host c.release.new.self c.args.id c.release.result c.release.ensures.goes)

pub settle-requires-clause-few : goal.settle-requires-clause-few
settle-requires-clause-few c =
    let i = c.self.inside in
    let a = c.self.invariant in
    asked_few i.host c.release.new.self c.args.id a.led a.few
    (release_leads i.host c.release.new.self c.args.id c.release.result c.release.ensures.goes)

pub invariant_of-self-2 : goal.invariant_of-self-2
invariant_of-self-2 c =
    let i = c.self.inside in
    let a = c.self.invariant in
    asked_in_hand i.host c.release.new.self c.args.id (memory_held i.device) i.line.items c.settle.new.line.items (deque_capacity i.line) (deque_capacity c.settle.new.line) a
    (release_leads i.host c.release.new.self c.args.id c.release.result c.release.ensures.goes)
    c.release.ensures.backing c.settle.ensures.lists (subst (λ n. 4096 ≤ n) (sym c.settle.ensures.room) a.enough)

pub returns-clause-goes : goal.returns-clause-goes
returns-clause-goes c =
    subst (λ (z : HandState). AnswersReleaseHere z c.args.id (Ok tt) (record { host = c.release.new.self; output = c.in-Ok.output.items })) c.self.view_is
    (release_here c.self.inside.host c.release.new.self c.args.id c.in-Ok.output c.self.inside.output.items c.in-Ok.ensures.goes)

pub returns-in-Err-clause-goes : goal.returns-in-Err-clause-goes
returns-in-Err-clause-goes c =
    subst (λ (z : HandState). AnswersReleaseHere z c.args.id (Err c.in-Err.error) (record { host = c.release.new.self; output = c.self.inside.output.items })) c.self.view_is
    (release_err c.self.inside.host c.release.new.self c.args.id c.in-Err.error c.self.inside.output.items c.in-Err.ensures.goes)
