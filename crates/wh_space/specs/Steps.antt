-- What the steps of an instance leave.
use Rattle.std.specs.Prelude.{ℕ, ◌≡◌, ◌≤◌, ◌/◌, cond, Bool, List, [], ◌∷◌, Option, Some, None}
use Rattle.std.specs.List.{All}
use Rattle.wh_model.specs.declared.memory.Got.{Got}
use Rattle.wh_model.specs.declared.memory.Got.TheVariants.{Value, Trap, NotReady}
use Rattle.wh_model.specs.declared.memory.Grown.{Grown}
use Rattle.wh_model.specs.declared.memory.Grown.TheVariants.{Done, Refused}
use Rattle.wh_space_model.specs.declared.states.Page.{Page}
use Rattle.wh_space_model.specs.declared.states.Page.TheVariants.{Untouched, Private, Shared, Leaving, LeavingShared, Coming, Swapped}
use Rattle.wh_space_model.specs.Parts.{Claimed, Space, claim, sharers}
use Rattle.wh_space_model.specs.Breaks.{Breaks}
use Rattle.wh_space_model.specs.Ready.{IsAtHand, frames_for, may_take}
use Rattle.wh_space_model.specs.States.{page_at}
use Rattle.wh_space_model.specs.Stores.{Grew, Overwrites, Touches}

-- a load of n bytes
abbrev pub LeavesLoad : Space → ℕ → ℕ → ℕ → Got → Space → Type 0
LeavesLoad s i at n Value s2 = Touches s i at n s2
LeavesLoad s i at n Trap s2 = s2 ≡ s
LeavesLoad s i at n (NotReady need) s2 = s2 ≡ s

-- a store of these bytes
abbrev pub LeavesStore : Space → ℕ → ℕ → List ℕ → Got → Space → Type 0
LeavesStore s i at given Value s2 = Overwrites s i at given s2
LeavesStore s i at given Trap s2 = s2 ≡ s
LeavesStore s i at given (NotReady need) s2 = s2 ≡ s

-- a growth by n pages of WebAssembly
abbrev pub LeavesGrowth : Space → ℕ → ℕ → Grown → Space → Type 0
LeavesGrowth s i n (Done pages) s2 = Grew s i n s2
LeavesGrowth s i n Refused s2 = s2 ≡ s

-- to how many pages of WebAssembly the instance at a place may grow
abbrev pub limit_by : Option Claimed → ℕ
limit_by None = 0
limit_by (Some c) = c.max / 16

abbrev pub page_limit : Space → ℕ → ℕ
page_limit s i = limit_by (claim s i)

-- a step that reads these pages, or writes them, can be taken
abbrev pub CanStep : Space → ℕ → Bool → List ℕ → Type 0
CanStep s i writes pages =
    All (λ p. IsAtHand (page_at s.tables i p)) pages × (cond writes (frames_for s i pages) 0 ≤ may_take s i)

-- the frame that a page shares
abbrev pub frame_shared : Page → Option ℕ
frame_shared Untouched = None
frame_shared (Private f) = None
frame_shared (Shared f) = Some f
frame_shared (Leaving f) = None
frame_shared (LeavingShared f) = Some f
frame_shared (Coming k) = None
frame_shared (Swapped k) = None

-- two pages share a frame with nobody else
pub record SharesAlone (s : Space) (i p q : ℕ) : Type 0 where
  pub frame : ℕ
  pub first : Page
  pub second : Page
  pub here : page_at s.tables i p ≡ Some first
  pub there : page_at s.tables i q ≡ Some second
  pub shared : frame_shared first ≡ Some frame
  pub also : frame_shared second ≡ Some frame
  pub alone : sharers s frame ≡ 2

-- the page can be written at once
abbrev pub CanBreak : Space → ℕ → ℕ → Type 0
CanBreak s i p = IsAtHand (page_at s.tables i p) × (frames_for s i (p ∷ []) ≤ may_take s i)

-- the page was given a frame of its own, and has this one; or it can't be, and nothing changed
abbrev pub Owns : Space → ℕ → ℕ → Option ℕ → Space → Type 0
Owns s i p None s2 = (¬ CanBreak s i p) × (s2 ≡ s)
Owns s i p (Some f) s2 = CanBreak s i p × Breaks s i p s2 × (page_at s2.tables i p ≡ Some (Private f))
