use Rattle.std.proofs.Common.{ℕ, ◌≡◌, ◌<◌, Some}
use Rattle.wh_space_model.specs.declared.states.Page.{Page}
use Rattle.wh_space_model.specs.{page_at}
use Rattle.wh_space.specs.Lendable.{IsHere}
use Rattle.wh_space.proofs.memory.Memory.is_away.Given as goal

-- the first pages are here
abbrev pub invariant-loop-number : goal.invariant-loop-number
invariant-loop-number l = (q : ℕ) (page : Page) → q < l.number → page_at l.self.tables l.place q ≡ Some page → IsHere page
