-- What pages leave after that go with their instance.
use Rattle.std.specs.Prelude.{ℕ, ◌<◌, ◌++◌, cond, Bool, true, false, List, [], ◌∷◌, length, get_or, slice_set}
use Rattle.wh_space_model.specs.Frames.{IsTaken, Pool}
use Rattle.wh_space_model.specs.declared.states.Mark.{Mark}
use Rattle.wh_space_model.specs.declared.states.Mark.TheVariants.{Plain, Hint, Sharers, Unlisted}
use Rattle.wh_space_model.specs.declared.states.Page.{Page}
use Rattle.wh_space_model.specs.declared.states.Page.TheVariants.{Untouched, Private, Shared, Leaving, LeavingShared, Coming, Swapped}
use Rattle.wh_space_model.specs.Breaks.{fewer_sharers}

-- the pool, and what the content table has of each frame
pub record Holdings : Type 0 where
  pub pool : Pool
  pub marks : List Mark

-- a frame is free
abbrev pub freed : Pool → ℕ → Pool
freed pool f = record pool { free = pool.free ++ f ∷ [] }

-- it has no entry
abbrev pub is_plain : Mark → Bool
is_plain Plain = true
is_plain (Hint hash i p) = false
is_plain (Sharers hash n) = false
is_plain (Unlisted n) = false

-- the page goes that had frame f as its own; one of its sharers does, and with the last one it is free
abbrev pub owner_gone : ℕ → Holdings → Holdings
owner_gone f a = record { pool = freed a.pool f; marks = slice_set a.marks f Plain }

abbrev pub sharer_gone : ℕ → Holdings → Holdings
sharer_gone f a = let left = fewer_sharers 1 (get_or a.marks f Plain) in record {
  pool = cond (is_plain left) (freed a.pool f) a.pool;
  marks = slice_set a.marks f left;
}

-- a page goes from its frame
abbrev pub page_gone : Page → Holdings → Holdings
page_gone Untouched a = a
page_gone (Private f) a = owner_gone f a
page_gone (Shared f) a = sharer_gone f a
page_gone (Leaving f) a = owner_gone f a
page_gone (LeavingShared f) a = sharer_gone f a
page_gone (Coming k) a = a
page_gone (Swapped k) a = a

-- these pages go, one after the other
abbrev pub pages_gone : List Page → Holdings → Holdings
pages_gone [] a = a
pages_gone (x ∷ xs) a = pages_gone xs (page_gone x a)

-- a frame is taken
abbrev pub IsHeld : ℕ → Holdings → Type 0
IsHeld f a = IsTaken a.pool f × (f < length a.marks)

-- that on which the page stands is
abbrev pub CanGo : Page → Holdings → Type 0
CanGo Untouched a = Unit {0}
CanGo (Private f) a = IsHeld f a
CanGo (Shared f) a = IsHeld f a
CanGo (Leaving f) a = IsHeld f a
CanGo (LeavingShared f) a = IsHeld f a
CanGo (Coming k) a = Unit {0}
CanGo (Swapped k) a = Unit {0}

-- and so is that of each of these pages when its turn comes
abbrev pub CanAllGo : List Page → Holdings → Type 0
CanAllGo [] a = Unit {0}
CanAllGo (x ∷ xs) a = CanGo x a × CanAllGo xs (page_gone x a)
