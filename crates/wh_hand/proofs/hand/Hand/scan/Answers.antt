use Rattle.std.proofs.Common.{◌≡◌, ◌+◌, ℕ, List, length, subst}
use Rattle.std.specs.Prelude.{IfSome}
use Rattle.wh_space_model.specs.{IsDistinct, fnv64}
use Rattle.wh_scan.specs.Pass.{MayPass, PassesOverAll}
use Rattle.wh_hand.specs.HandStates.{HandState}
use Rattle.wh_host.specs.Paging.{MovesOnly}
use Rattle.std.specs.VecDeque.{deque_capacity}
use Rattle.wh_swap.specs.MemorySwaps.{memory_held}
use Rattle.wh_hand.proofs.Steps.{only_moved_in_hand}
use Rattle.wh_hand.proofs.hand.Hand.scan.Goals as goal

pub invariant_of-self : goal.invariant_of-self
invariant_of-self c =
    let i = c.self.inside in
    only_moved_in_hand i.host c.scan.new.self (memory_held i.device) i.line.items (deque_capacity i.line) c.self.invariant c.scan.ensures.moves c.scan.ensures.backing

pub returns-clause-moves : goal.returns-clause-moves
returns-clause-moves c = subst (λ (z : HandState). MovesOnly z.host c.scan.new.self) c.self.view_is c.scan.ensures.moves

pub returns-clause-full : goal.returns-clause-full
returns-clause-full c =
    subst (λ (z : HandState). IfSome c.scan.result (λ _. MayPass fnv64 z.host.space → PassesOverAll fnv64 z.host.space c.scan.new.self.space)) c.self.view_is c.scan.ensures.full

pub returns-clause-counts : goal.returns-clause-counts
returns-clause-counts c =
    let s2 = c.scan.new.self.space in
    subst
    (λ (z : HandState). IfSome c.scan.result (λ _. MayPass fnv64 z.host.space
    → (all : List (List ℕ)) → IsDistinct s2 all → length all + length s2.pool.free ≡ length s2.pool.frames))
    c.self.view_is c.scan.ensures.counts
