use Rattle.std.proofs.Common.{ℕ, ◌<◌, List, length}
use Rattle.wh_space_model.specs.declared.states.Mark.{Mark}
use Rattle.wh_content.specs.Chains.{IsPlace, AreChains}
use Rattle.wh_content.proofs.chains.Chains.behind.Given as goal

-- it is at a place of the chain, behind the frame
abbrev pub invariant-loop-next : goal.invariant-loop-next
invariant-loop-next l = record {
  behind : l.fn.frame < l.place;
  within : l.place < length l.fn.self;
  place : (count bucket : ℕ) (marks : List Mark) → AreChains count marks l.fn.self → bucket < count
      → IsPlace count marks bucket l.fn.head → IsPlace count marks bucket l.place;
}

abbrev pub decreases-loop-next : goal.decreases-loop-next
decreases-loop-next l = l.place
